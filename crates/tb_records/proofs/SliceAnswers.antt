-- What is read from a slice, by where its reading ended.
use Rattle.std.proofs.Common.{◌≡◌, ℕ, ◌+◌, ◌-◌, ◌<◌, ◌≤◌, List, [], ◌∷◌, ◌++◌, length, take, drop, Option, Some, None, Err, refl, sym, ap, ◌∙◌, arith, length-append, length-take, length-drop, append-nil}
use Rattle.std.proofs.Math.Seq.{take-add}
use Rattle.std.specs.Io.KnownBytes.{Consumes}
use Rattle.std.specs.List.{between}
use Rattle.tb_records.specs.declared.faults.FrameFault.{FrameFault}
use Rattle.tb_records.specs.declared.faults.FrameFault.TheVariants.{Short}
use Rattle.tb_records.specs.declared.headers.Header.{Header}
use Rattle.tb_records.specs.Messages.{Message, operation}
use Rattle.tb_records.specs.Frames.{header_bytes, body_bytes, request_fault, header_fault, Spells}
use Rattle.tb_records.specs.private.HeaderFields.{HeaderOf, HeaderSpelled, ReadsRequest, body_length}
use Rattle.tb_records.specs.Inputs.{Found}
use Rattle.tb_records.proofs.FrameFaults.{is_of_header, header_first, cut_body, whole_frame}
use Rattle.tb_records.proofs.StreamAnswers.{header_of_request, read_length, length_of}

-- the header has a fault
pub bad_slice : (fault : FrameFault) (bytes : List ℕ) → 48 ≤ length bytes → header_fault bytes ≡ Some fault → Found (Err fault) bytes
bad_slice fault bytes h e =
    let kind = is_of_header bytes fault e in
    let first = header_first bytes fault h e in
    grind arith

-- the body is cut
pub cut_slice : (bytes : List ℕ) (h : Header) → 48 ≤ length bytes → HeaderOf bytes h → length bytes - 48 < h.length → request_fault bytes ≡ Some Short
cut_slice bytes h long of short = grind (arith, cut_body)

-- the body is there
pub whole_slice : (bytes : List ℕ) (h : Header) → 48 ≤ length bytes → HeaderOf bytes h → h.length ≤ length bytes - 48 → request_fault bytes ≡ None
whole_slice bytes h long of whole = grind (arith, whole_frame)

-- a list without items
empty : (xs : List ℕ) → length xs ≡ 0 → xs ≡ []
empty [] h = refl
empty (x ∷ xs) h = absurd (omega arith)

-- a request was read
pub slice_request : (bytes part : List ℕ) (h : Header) (r : Message) (new : Option (List ℕ)) → 48 ≤ length bytes → HeaderOf bytes h → HeaderSpelled bytes → h.length ≤ length bytes - 48
    → part ≡ between 48 (48 + h.length) bytes → ReadsRequest h r (Some part) new → (48 + h.length ≤ length bytes) × Spells (take (48 + h.length) bytes) r
slice_request bytes part h r None long of spelled whole at read = absurd read.bytes
slice_request bytes part h r (Some rest) long of spelled whole at read =
    let body = body_bytes r.body in
    let split : part ≡ body ++ rest = read.bytes in
    let len : length body ≡ h.length = read_length bytes h r (Some part) (Some rest) of read ∙ sym of.length in
    let slice : length (between 48 (48 + h.length) bytes) ≡ h.length = simp (length-take, length-drop) (omega arith) in
    let size : length part ≡ h.length = ap length at ∙ slice in
    let none : rest ≡ [] = empty rest (omega (arith, ap length split, length-append body rest, len, size)) in
    let same : take h.length (drop 48 bytes) ≡ body =
    ap (λ n. take n (drop 48 bytes)) (omega arith) ∙ sym at ∙ split ∙ ap (λ l. body ++ l) none ∙ append-nil body in (
      omega arith,
      record {
        bytes_are = take-add 48 h.length bytes
            ∙ ap (λ l. l ++ take h.length (drop 48 bytes)) (sym (header_of_request bytes h r (Some part) (Some rest) of spelled read))
            ∙ ap (λ l. header_bytes r.client r.session r.request (operation r.body) (length body) ++ l) same;
        is = read.is;
      },
    )

-- all bytes are read
pub all_read : (bytes spelled : List ℕ) → spelled ≡ bytes → Consumes (Some bytes) (Some []) spelled
all_read bytes spelled same = sym same ∙ sym (append-nil spelled)

-- the length of the bytes after a header
pub part_long : (bytes : List ℕ) (h : Header) → HeaderOf bytes h → h.length ≤ length bytes - 48 → length (between 48 (48 + h.length) bytes) ≡ body_length h
part_long bytes h of whole =
    let slice : length (between 48 (48 + h.length) bytes) ≡ h.length = simp (length-take, length-drop) (omega arith) in
    slice ∙ of.length ∙ sym (length_of bytes h of)

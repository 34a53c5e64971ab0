-- What a stream returns, by the place where its reading ended.
use Rattle.std.proofs.Common.{◌≡◌, ℕ, ◌+◌, ◌*◌, ◌<◌, ◌≤◌, List, ◌++◌, length, take, drop, Option, Some, None, Ok, Err, refl, sym, ap, subst, ◌∙◌, arith, length-append, length-take, length-drop, drop_at, append_assoc, take_all}
use Rattle.std.specs.Io.KnownBytes.{Consumes}
use Rattle.tb_records.specs.declared.bodies.Body.{Body}
use Rattle.tb_records.specs.declared.bodies.Body.TheVariants.{Register, CreateAccounts, CreateTransfers, LookupAccounts, LookupTransfers}
use Rattle.tb_records.specs.declared.faults.FrameFault.{FrameFault}
use Rattle.tb_records.specs.declared.faults.FrameFault.TheVariants.{Short, Device, NoMemory}
use Rattle.tb_records.specs.declared.headers.Header.{Header}
use Rattle.tb_records.specs.Messages.{Message, operation, item_count}
use Rattle.tb_records.specs.Frames.{header_bytes, body_bytes, request_bytes, request_fault, header_fault, operation_at, length_at, header_tests, item_size}
use Rattle.tb_records.specs.private.HeaderFields.{HeaderOf, HeaderSpelled, ReadsHeader, ReadsRequest, body_length}
use Rattle.tb_records.specs.Inputs.{Faulted, TimedFaulted, Answers, TimedAnswers}
use Rattle.tb_records.specs.Transport.{Input, FaultCounts, risen}
use Rattle.tb_records.specs.private.Reading.{Filled, Lost, BodyFault, ReadsMoment}
use Rattle.tb_records.specs.Numbers.{le_bytes}
use Rattle.tb_records.specs.RecordBytes.{account_bytes, transfer_bytes}
use Rattle.tb_records.proofs.Sizes.{length-le_bytes, length-account, length-transfer, length-id}
use Rattle.tb_records.proofs.Pieces.{length-items}
use Rattle.tb_records.proofs.HeaderBytes.{right_length}
use Rattle.tb_records.proofs.FirstFaults.{none_each}
use Rattle.tb_records.proofs.FrameFaults.{IsOfHeader, is_of_header, cut_header, cut_body, header_first, header_fault-append, length_at-append}

-- the header is cut
pub short_header : (buf : List ℕ) (n : ℕ) (old new : Option (List ℕ)) → (n ≡ 0 → ⊥) → n < 48 → length buf ≡ 48 → Filled n buf old new → Answers (Err Short) old new
short_header buf n old new some h long f =
    let end = f.end (omega arith) in
    grind (arith, cut_header, length-append, length-take)

-- the header has a fault
pub faulty_header : (fault : FrameFault) (header : List ℕ) (old new : Option (List ℕ)) → length header ≡ 48 → Consumes old new header → header_fault header ≡ Some fault → Answers (Err fault) old new
faulty_header fault header None new long read e = tt
faulty_header fault header (Some old) None long read e = absurd read
faulty_header fault header (Some old) (Some new) long left e =
    let kind = is_of_header header fault e in
    let same = header_fault-append header new (omega arith) in
    let first = header_first (header ++ new) fault (omega (arith, length-append header new)) (same ∙ e) in
    let behind = drop_at header new 48 long in
    grind arith

-- a fault of the header is not one of the reader
pub header_counts : (fault : FrameFault) (old new : Input) → IsOfHeader fault → new.failed ≡ old.failed → FaultCounts fault old new
header_counts fault old new is same = grind arith

-- the buffer was filled
pub whole_buffer : (buf : List ℕ) (n : ℕ) (old new : Option (List ℕ)) → 48 ≤ n → length buf ≡ 48 → Filled n buf old new → Consumes old new buf
whole_buffer buf n old new h long f = subst (Consumes old new) (take_all n buf (omega arith)) f.bytes

-- the length of the body after a header
pub length_of : (b : List ℕ) (h : Header) → HeaderOf b h → body_length h ≡ length_at b
unfolding header_fault
length_of b h of =
    let tests = none_each (header_tests b) of.sound in
    let right = right_length (operation_at b) (length_at b) tests.1.1.1.1.1 in
    grind arith

-- the body was not read
pub faulty_body : (fault : FrameFault) (h : Header) (old mid new : Option (List ℕ)) → ReadsHeader h old mid → BodyFault fault (body_length h) mid new → Answers (Err fault) old new
faulty_body fault h None mid new header body = tt
faulty_body fault h (Some old) None new header body = absurd header.bytes
faulty_body fault h (Some old) (Some mid) None header body = absurd (grind arith)
faulty_body fault h (Some old) (Some mid) (Some new) header body = by fault body
  where
    b : List ℕ
    b = header.header

    left : old ≡ b ++ mid
    left = header.bytes

    whole : length old ≡ 48 + length mid
    whole = omega (arith, ap length left, length-append b mid, header.long)

    sound : header_fault old ≡ None
    sound = ap header_fault left ∙ header_fault-append b mid (omega (arith, header.long)) ∙ header.fields.sound

    len : length_at old ≡ body_length h
    len = ap length_at left ∙ length_at-append b mid (omega (arith, header.long)) ∙ sym (length_of b h header.fields)

    by : (fault : FrameFault) → BodyFault fault (body_length h) (Some mid) (Some new) → Faulted fault old new
    by NoMemory kept = (omega (arith, whole), sound, kept ∙ sym (drop_at b mid 48 header.long) ∙ ap (drop 48) (sym left))
    by Short body =
        let size : length mid ≡ length body.rest = omega (arith, ap length body.bytes, length-append body.rest new, ap length body.end) in
        (omega (arith, whole), cut_body old (omega (arith, whole)) sound (omega (arith, whole, size, len, body.short)), body.end)
    by Device body =
        (b ++ body.front, omega (arith, length-append b body.front, header.long, len, body.short), left ∙ ap (λ l. b ++ l) body.bytes ∙ sym (append_assoc b body.front new))
    by fault body = absurd body

-- the length of a body, by its items
pub length-body : (body : Body) → length (body_bytes body) ≡ item_count body * item_size (operation body)
unfolding body_bytes
length-body Register = refl
length-body (CreateAccounts events) = length-items account_bytes 128 events length-account
length-body (CreateTransfers events) = length-items transfer_bytes 128 events length-transfer
length-body (LookupAccounts ids) = length-items (le_bytes 16) 16 ids length-id
length-body (LookupTransfers ids) = length-items (le_bytes 16) 16 ids length-id

-- the length of the body that was read
pub read_length : (b : List ℕ) (h : Header) (r : Message) (mid new : Option (List ℕ)) → HeaderOf b h → ReadsRequest h r mid new → length (body_bytes r.body) ≡ length_at b
read_length b h r mid new of read =
    length-body r.body ∙ (λ i. read.count i * item_size (read.operation i)) ∙ length_of b h of

-- the header that was read is that of the request
pub header_of_request : (b : List ℕ) (h : Header) (r : Message) (mid new : Option (List ℕ)) → HeaderOf b h → HeaderSpelled b → ReadsRequest h r mid new
    → header_bytes r.client r.session r.request (operation r.body) (length (body_bytes r.body)) ≡ take 48 b
header_of_request b h r mid new of spelled read =
    let body = r.body in
    let len : length (body_bytes body) ≡ length_at b = read_length b h r mid new of read in
    let client = read.client ∙ of.client in
    let session = read.session ∙ of.session in
    let request = read.request ∙ of.request in
    let code = read.operation ∙ of.operation in
    (λ i. header_bytes (client i) (session i) (request i) (code i) (len i)) ∙ sym spelled.bytes

-- a request was read
pub whole_request : (h : Header) (r : Message) (old mid new : Option (List ℕ)) → ReadsHeader h old mid → ReadsRequest h r mid new → Answers (Ok (Some r)) old new
whole_request h r None mid new header read = tt
whole_request h r (Some old) None new header read = absurd header.bytes
whole_request h r (Some old) (Some mid) None header read = absurd read.bytes
whole_request h r (Some old) (Some mid) (Some new) header read =
    let b = header.header in
    let body = body_bytes r.body in
    let left : old ≡ b ++ mid = header.bytes in
    let behind : mid ≡ body ++ new = read.bytes in (
      left ∙ ap (λ l. b ++ l) behind ∙ sym (append_assoc b body new)
          ∙ ap (λ l. (l ++ body) ++ new) (sym (header_of_request b h r (Some mid) (Some new) header.fields header.spelled read ∙ take_all 48 b (omega (arith, header.long)))),
      read.is,
    )

-- the moment is cut
pub short_moment : (buf : List ℕ) (n : ℕ) (old new : Option (List ℕ)) → (n ≡ 0 → ⊥) → n < 8 → length buf ≡ 8 → Filled n buf old new → TimedAnswers (Err Short) old new
short_moment buf n old new some h long f =
    let end = f.end (omega arith) in
    grind (arith, cut_header, length-append, length-take, length-drop)

-- the reader failed within the moment
pub lost_moment : (fault : FrameFault) (old new : Option (List ℕ)) → fault ≡ Device → Lost 8 old new → TimedAnswers (Err fault) old new
lost_moment fault None new is lost = tt
lost_moment fault (Some old) None is lost = absurd lost.bytes
lost_moment fault (Some old) (Some new) is lost = subst (λ f. TimedFaulted f old new) (sym is) (lost.front, omega (arith, lost.short), lost.bytes)

-- there is no frame after the moment
pub no_frame : (moment : ℕ) (old mid new : Option (List ℕ)) → ReadsMoment moment old mid → Answers (Ok None) mid new → TimedAnswers (Err Short) old new
no_frame moment old mid new read rest = grind (arith, cut_header, length-append, length-drop, length-le_bytes)

-- the frame after the moment has a fault
pub bad_frame : (fault : FrameFault) (moment : ℕ) (old mid new : Option (List ℕ)) → ReadsMoment moment old mid → Answers (Err fault) mid new → TimedAnswers (Err fault) old new
bad_frame fault moment None mid new read rest = tt
bad_frame fault moment (Some old) None new read rest = absurd read.bytes
bad_frame fault moment (Some old) (Some mid) None read rest = absurd rest
bad_frame fault moment (Some old) (Some mid) (Some new) read rest =
    let left : old ≡ le_bytes 8 moment ++ mid = read.bytes in
    let behind : drop 8 old ≡ mid = ap (drop 8) left ∙ drop_at (le_bytes 8 moment) mid 8 (length-le_bytes 8 moment) in
    later fault moment old mid new left behind rest
  where
    later : (fault : FrameFault) (moment : ℕ) (old mid new : List ℕ) → old ≡ le_bytes 8 moment ++ mid → drop 8 old ≡ mid → Faulted fault mid new → TimedFaulted fault old new
    later Device moment old mid new left behind rest = (
      le_bytes 8 moment ++ rest.0,
      omega (arith, length-append (le_bytes 8 moment) rest.0, length-le_bytes 8 moment, rest.1, ap length_at behind),
      left ∙ ap (λ l. le_bytes 8 moment ++ l) rest.2 ∙ sym (append_assoc (le_bytes 8 moment) rest.0 new),
    )
    later Short moment old mid new left behind rest = (
      omega (arith, ap length left, length-append (le_bytes 8 moment) mid, length-le_bytes 8 moment),
      ap request_fault behind ∙ rest.1,
      rest.2,
    )
    later fault moment old mid new left behind rest = subst (λ l. Faulted fault l new) (sym behind) rest

-- a moment and a request were read
pub whole_pair : (moment : ℕ) (r : Message) (old mid new : Option (List ℕ)) → ReadsMoment moment old mid → Answers (Ok (Some r)) mid new → TimedAnswers (Ok (Some (moment, r))) old new
whole_pair moment r None mid new read rest = tt
whole_pair moment r (Some old) None new read rest = absurd read.bytes
whole_pair moment r (Some old) (Some mid) None read rest = absurd rest
whole_pair moment r (Some old) (Some mid) (Some new) read rest =
    (read.bytes ∙ ap (λ l. le_bytes 8 moment ++ l) rest.0 ∙ sym (append_assoc (le_bytes 8 moment) (request_bytes r) new), read.fits, rest.1)

-- the reader failed within the header
pub lost_header : (fault : FrameFault) (old new : Option (List ℕ)) → fault ≡ Device → Lost 48 old new → Answers (Err fault) old new
lost_header fault None new is lost = tt
lost_header fault (Some old) None is lost = absurd lost.bytes
lost_header fault (Some old) (Some new) is lost = subst (λ f. Faulted f old new) (sym is) (lost.front, omega (arith, lost.short), lost.bytes)

-- the errors of two reads, of which the first had none
pub counts_since : (fault : FrameFault) (old mid new : Input) → mid.failed ≡ old.failed → FaultCounts fault mid new → FaultCounts fault old new
counts_since Device old mid new same counts = record { rose = counts.rose ∙ ap risen same; last = counts.last }
counts_since fault old mid new same counts = counts ∙ same

-- The result for a pair among the buffered bytes.
use Rattle.std.proofs.Common.{◌≡◌, ℕ, Bool, true, false, if◌then◌else◌, subst, ◌+◌, ◌-◌, ◌<◌, ◌≤◌, ◌^◌, List, ◌++◌, length, take, drop, Option, Some, None, Ok, Err, refl, sym, ap, ◌∙◌, arith, length-append, length-take, length-drop, drop_at, append_assoc, take_all}
use Rattle.std.proofs.Math.Seq.{take-add}
use Rattle.std.proofs.lemmas.List.{take-append-drop, take-append-le}
use Rattle.std.proofs.lemmas.Bool.Decides.{nat_tests}
use Rattle.std.specs.Io.BufRead.{DropsConsumable}
use Rattle.std.specs.Io.KnownBytes.{Consumes, prepend_known}
use Rattle.tb_records.specs.declared.faults.FrameFault.{FrameFault}
use Rattle.tb_records.specs.declared.faults.FrameFault.TheVariants.{NoMemory}
use Rattle.tb_records.specs.AtHand.{holds_pair}
use Rattle.tb_records.specs.Messages.{Message}
use Rattle.tb_records.specs.Frames.{request_fault, header_fault}
use Rattle.tb_records.specs.Inputs.{Found, TimedAnswers}
use Rattle.tb_records.specs.Numbers.{le_bytes}
use Rattle.tb_records.specs.private.PairAtHand.{BeginsWithPair, BeginsWithHeader}
use Rattle.tb_records.proofs.FrameFaults.{header_first, header_fault-append}

-- a whole pair has a moment and a header
pub pair_long : (bytes : List ℕ) → true ≡ holds_pair bytes → 56 ≤ length bytes
pair_long bytes holds = grind (arith, nat_tests, length-drop)

-- a moment, and the request that the bytes after it begin with
pub pair_found : (moment count : ℕ) (request : Message) (bytes : List ℕ) → 8 ≤ length bytes → moment < 2 ^ 64 → take (0 + 8) bytes ≡ take 0 bytes ++ le_bytes 8 moment
    → Found (Ok (request, count)) (drop 8 bytes) → BeginsWithPair moment request (8 + count) bytes
pair_found moment count request bytes long small first found = record {
  within = omega (arith, found.0, length-drop 8 bytes);
  spelled = take-add 8 count bytes ∙ (λ i. first i ++ found.1.bytes_are i);
  is = (small, found.1.is);
}

-- the same for the part of the bytes that begins there
pub part_found : (moment count : ℕ) (request : Message) (bytes : List ℕ) → true ≡ holds_pair bytes → moment < 2 ^ 64 → take (0 + 8) bytes ≡ take 0 bytes ++ le_bytes 8 moment
    → Found (Ok (request, count)) (take (length bytes - 8) (drop 8 bytes)) → BeginsWithPair moment request (8 + count) bytes
part_found moment count request bytes holds small first found =
    let long : 56 ≤ length bytes = pair_long bytes holds in
    let all = take_all (length bytes - 8) (drop 8 bytes) (omega (arith, length-drop 8 bytes)) in
    pair_found moment count request bytes (omega arith) small first (subst (Found (Ok (request, count))) all found)

none_of : (bytes : List ℕ) (f : Option FrameFault) → 48 ≤ length bytes → header_fault bytes ≡ f → request_fault bytes ≡ None → header_fault bytes ≡ None
none_of bytes None long e whole = e
none_of bytes (Some fault) long e whole = absurd (grind (arith, header_first bytes fault long e))

-- a frame without a fault has a header without one
pub header_found : (bytes : List ℕ) (fault : FrameFault) → 56 ≤ length bytes → fault ≡ NoMemory → Found (Err fault) (take (length bytes - 8) (drop 8 bytes)) → BeginsWithHeader bytes
header_found bytes fault long is found =
    let frame = drop 8 bytes in
    let part = take (length bytes - 8) frame in
    let all : part ≡ frame = take_all (length bytes - 8) frame (omega (arith, length-drop 8 bytes)) in
    let sound : Found (Err NoMemory) part = subst (λ f. Found (Err f) part) is found in
    let none : request_fault frame ≡ None = ap request_fault (sym all) ∙ sound in
    record { long = long; sound = none_of frame (header_fault frame) (omega (arith, length-drop 8 bytes)) refl none }

-- the pair was consumed
pub pair_read : (moment count : ℕ) (request : Message) (hand : List ℕ) (old new : Option (List ℕ)) → BeginsWithPair moment request count hand → Consumes old new (take count hand)
    → TimedAnswers (Ok (Some (moment, request))) old new
pair_read moment count request hand None new found read = tt
pair_read moment count request hand (Some old) None found read = absurd read
pair_read moment count request hand (Some old) (Some new) found read = (read ∙ ap (λ l. l ++ new) found.spelled, found.is.0, found.is.1)

-- moment and header were consumed, and there is no memory for the body
pub pair_refused : (hand : List ℕ) (old new : Option (List ℕ)) → BeginsWithHeader hand → Consumes old new (take 56 hand) → TimedAnswers (Err NoMemory) old new
pair_refused hand None new found read = tt
pair_refused hand (Some old) None found read = absurd read
pair_refused hand (Some old) (Some new) found read =
    let long : 56 ≤ length hand = found.long in
    let moment = take 8 hand in
    let header = take 48 (drop 8 hand) in
    let eight : length moment ≡ 8 = omega (arith, length-take 8 hand) in
    let size : length header ≡ 48 = omega (arith, length-take 48 (drop 8 hand), length-drop 8 hand) in
    let left : old ≡ moment ++ (header ++ new) = read ∙ ap (λ l. l ++ new) (take-add 8 48 hand) ∙ append_assoc moment header new in
    let behind : drop 8 old ≡ header ++ new = ap (drop 8) left ∙ drop_at moment (header ++ new) 8 eight in
    let same : header_fault (drop 8 hand) ≡ header_fault header =
    ap header_fault (sym (take-append-drop 48 (drop 8 hand))) ∙ header_fault-append header (drop 48 (drop 8 hand)) (omega (arith, size)) in (
      omega (arith, ap length behind, length-append header new, size),
      ap header_fault behind ∙ header_fault-append header new (omega (arith, size)) ∙ sym same ∙ found.sound,
      sym (drop_at header new 48 size) ∙ sym (ap (drop 48) behind),
    )

-- buffered bytes were consumed, of a buffer before a reader that may not report its bytes
pub skipped : (n : ℕ) (buffer : List ℕ) (none : Bool) (inner new : Option (List ℕ)) → n ≤ length buffer
    → DropsConsumable (if none then None else prepend_known buffer inner) new (Some (length buffer)) n
    → Consumes (if none then None else prepend_known buffer inner) new (take n buffer)
skipped n buffer true inner new within drops = tt
skipped n buffer false None new within drops = tt
skipped n buffer false (Some rest) new within drops =
    let whole : buffer ++ rest ≡ take n buffer ++ drop n (buffer ++ rest) =
    sym (take-append-drop n (buffer ++ rest)) ∙ ap (λ l. l ++ drop n (buffer ++ rest)) (take-append-le n buffer rest within) in
    subst (λ left. Consumes (Some (buffer ++ rest)) left (take n buffer)) (sym (drops within)) whole

-- The records of a journal: each is that of one entry, and what is read of it is that entry.
use Rattle.std.proofs.Common.{◌≡◌, ℕ, ◌^◌, ◌<◌, ◌≤◌, List, [], ◌++◌, length, take, drop, Result, Err, w64, inl, inr, sym, ap, ◌∙◌, subst, arith, append_assoc, append-nil, length-append, take-append-drop, drop_at, slice_index}
use Rattle.std.specs.Int.{to_le_bytes}
use Rattle.std.proofs.lemmas.Slice.{between_to_end}
use Rattle.std.specs.List.{between}
use Rattle.byteorder.specs.Endian.{little_number}
use Rattle.tb_records.specs.declared.faults.FrameFault.{FrameFault}
use Rattle.tb_records.specs.declared.faults.FrameFault.TheVariants.{Short, BadLength, NoMemory}
use Rattle.tb_records.specs.DumpBytes.{numbers_bytes}
use Rattle.tb_records.specs.Frames.{Spells, request_bytes}
use Rattle.tb_records.specs.Inputs.{Found, OnlyThis}
use Rattle.tb_records.specs.Messages.{Message}
use Rattle.tb_records.specs.Numbers.{le_bytes, le_at}
use Rattle.tb_records.proofs.DumpAnswers.{one_numbers, length-numbers}
use Rattle.tb_records.proofs.NumberBytes.{number_spelled}
use Rattle.tb_records.proofs.Spellings.{spelled_once}
use Rattle.tb_machine.specs.declared.entries.Entry.{Entry}
use Rattle.tb_machine.specs.Dumps.{dumped}
use Rattle.tb_machine.specs.Recording.{IsRecord, RecordAnswers, OnlyEntry, OneRecord}

pub one_record : OneRecord
one_record bytes e f mine yours =
    let numbers = one_numbers e.commit e.time f.commit f.time (request_bytes e.request) (request_bytes f.request) mine.commit_fits mine.time_fits yours.commit_fits yours.time_fits (sym mine.bytes_are ∙ yours.bytes_are) in
    let frame = spelled_once e.request f.request [] [] mine.request yours.request (ap (λ l. l ++ []) numbers.2) in
    λ i. record { commit = numbers.0 i; time = numbers.1 i; request = frame.0 i }

-- the numbers of a record fit, and its frame follows them
pub long_record : (bytes : List ℕ) (e : Entry) → IsRecord bytes e → 16 ≤ length bytes
long_record bytes e is = omega (arith, ap length is.bytes_are, length-append (numbers_bytes e.commit e.time) (request_bytes e.request), length-numbers e.commit e.time)

frame_of : (bytes : List ℕ) (e : Entry) → IsRecord bytes e → drop 16 bytes ≡ request_bytes e.request
frame_of bytes e is = ap (drop 16) is.bytes_are ∙ drop_at (numbers_bytes e.commit e.time) (request_bytes e.request) 16 (length-numbers e.commit e.time)

-- what was read of the frame of a record
pub frame_only : (answer : Result (Message × ℕ) FrameFault) (bytes frame : List ℕ) (e : Entry) → frame ≡ drop 16 bytes → IsRecord bytes e
    → ((r : Message) (front rest : List ℕ) → Spells front r → frame ≡ front ++ rest → OnlyThis answer r (length front))
    → OnlyThis answer e.request (length frame)
frame_only answer bytes frame e here is only = only e.request frame [] (record { bytes_are = here ∙ frame_of bytes e is; is = is.request }) (sym (append-nil frame))

pub only_fault : (fault : FrameFault) (r : Message) (e : Entry) (n : ℕ) → OnlyThis (Err fault) r n → OnlyEntry (Err fault) e
only_fault NoMemory r e n only = tt
only_fault fault r e n only = absurd only

pub fault_answers : (fault : FrameFault) (bytes frame : List ℕ) → 16 ≤ length bytes → frame ≡ drop 16 bytes → Found (Err fault) frame → RecordAnswers (Err fault) bytes
fault_answers fault bytes frame long here found = by fault (subst (λ l. Found (Err fault) l) here found)
  where
    by : (fault : FrameFault) → Found (Err fault) (drop 16 bytes) → RecordAnswers (Err fault) bytes
    by Short found = inr found
    by BadLength found = inl found
    by NoMemory found = (long, found)
    by fault found = found

-- the rest of a slice
pub rest_of : (n end : ℕ) (bytes : List ℕ) → length bytes ≤ end → between n end bytes ≡ drop n bytes
rest_of n end bytes le = between_to_end bytes n end le

-- the entry of two numbers and a frame after them
pub record_of : (bytes rest : List ℕ) (commit time : ℕ) (r : Message) → 16 ≤ length bytes → ((i : ℕ) → slice_index bytes i < 256)
    → commit ≡ little_number 8 bytes → time ≡ little_number 8 rest → rest ≡ drop 8 bytes → commit < 2 ^ 64 → time < 2 ^ 64 → Spells (drop 16 bytes) r
    → IsRecord bytes (record { commit = commit; time = time; request = r })
unfolding le_at numbers_bytes
record_of bytes rest commit time r long small first second behind commit_fits time_fits spells = record {
  bytes_are = sym (take-append-drop 16 bytes) ∙ (λ i. numbers i ++ spells.bytes_are i);
  commit_fits = commit_fits;
  time_fits = time_fits;
  request = spells.is;
}
  where
    front : take 8 bytes ≡ take 0 bytes ++ le_bytes 8 commit
    front = number_spelled 8 0 commit bytes (omega arith) small first

    numbers : take 16 bytes ≡ le_bytes 8 commit ++ le_bytes 8 time
    numbers = number_spelled 8 8 time bytes (omega arith) small (second ∙ ap (little_number 8) behind) ∙ ap (λ l. l ++ le_bytes 8 time) front

-- numbers and a frame, appended one after another
pub appended : (items one two three : List ℕ) (e : Entry) → one ≡ items ++ to_le_bytes w64 e.commit → two ≡ one ++ to_le_bytes w64 e.time → three ≡ two ++ request_bytes e.request → three ≡ items ++ dumped e
unfolding numbers_bytes le_bytes
appended items one two three e a b d =
    let commit = to_le_bytes w64 e.commit in
    let time = to_le_bytes w64 e.time in
    d ∙ ap (λ l. l ++ request_bytes e.request) (b ∙ ap (λ l. l ++ time) a ∙ append_assoc items commit time) ∙ append_assoc items (commit ++ time) (request_bytes e.request)

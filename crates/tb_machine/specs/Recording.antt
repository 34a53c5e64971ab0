-- The record of an entry in a journal: exactly the bytes of the entry in a dump.
use Rattle.std.specs.Prelude.{ℕ, ◌≡◌, ◌⊎◌, ◌^◌, ◌<◌, ◌≤◌, List, length, take, drop, Some, None, Result, Ok, Err}
use Rattle.tb_records.specs.declared.faults.FrameFault.{FrameFault}
use Rattle.tb_records.specs.declared.faults.FrameFault.TheVariants.{Short, BadLength, NoMemory}
use Rattle.tb_records.specs.Frames.{Spells, IsRequest, request_fault}
use Rattle.tb_records.specs.Messages.{Message}
use Rattle.tb_machine.specs.declared.entries.Entry.{Entry}
use Rattle.tb_machine.specs.Dumps.{dumped}

-- the bytes are the record of the entry
pub record IsRecord (bytes : List ℕ) (e : Entry) : Type 0 where
  pub bytes_are : bytes ≡ dumped e
  pub commit_fits : e.commit < 2 ^ 64
  pub time_fits : e.time < 2 ^ 64
  pub request : IsRequest e.request

-- more bytes follow the frame of a request
abbrev pub HasMore : List ℕ → Type 0
HasMore frame = (n : ℕ) × (r : Message) × (n < length frame) × Spells (take n frame) r

-- the result of reading a record: its entry, or what is wrong with it
abbrev pub RecordAnswers : Result Entry FrameFault → List ℕ → Type 0
RecordAnswers (Ok e) bytes = IsRecord bytes e
RecordAnswers (Err Short) bytes = (length bytes < 16) ⊎ (request_fault (drop 16 bytes) ≡ Some Short)
RecordAnswers (Err BadLength) bytes = (request_fault (drop 16 bytes) ≡ Some BadLength) ⊎ HasMore (drop 16 bytes)
RecordAnswers (Err NoMemory) bytes = (16 ≤ length bytes) × (request_fault (drop 16 bytes) ≡ None)
RecordAnswers (Err fault) bytes = request_fault (drop 16 bytes) ≡ Some fault

-- the only result is this entry, unless memory runs out
abbrev pub OnlyEntry : Result Entry FrameFault → Entry → Type 0
OnlyEntry (Ok found) e = found ≡ e
OnlyEntry (Err NoMemory) e = Unit {0}
OnlyEntry (Err fault) e = ⊥

-- each record belongs to one entry
abbrev pub OneRecord : Type 0
OneRecord = (bytes : List ℕ) (e f : Entry) → IsRecord bytes e → IsRecord bytes f → e ≡ f

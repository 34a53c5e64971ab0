-- A journal that may be written to.
use Rattle.std.specs.Prelude.{◌≡◌, ℕ, ◌+◌, Bool, List, [], ◌∷◌, ◌++◌, length}
use Rattle.tb_file_journal.specs.Device.{Disk, LeavesOnly}
use Rattle.tb_file_journal.specs.Contents.{at_rest, recorded, records_end}
use Rattle.tb_file_journal.specs.Steps.{IsWholeFile, IsAtRest, IsBeforeOrAfter}

-- a device with a journal's file, the offset at which its records end, their number, the records that wait, and whether no commit has failed
pub record Kept (D : Type 0) : Type 0 where
  pub device : D
  pub end : ℕ
  pub count : ℕ
  pub waiting : List (List ℕ)
  pub usable : Bool

-- the bytes of the file with all waiting records and one more record
abbrev pub grown_bytes : {D : Type 0} → Kept D → List ℕ → ℕ
grown_bytes journal bytes = journal.end + length (at_rest journal.waiting) + 11 + length bytes

-- the file is whole, and the journal's numbers are those of its records
pub record IsWritable {D : Type 0} (disk : D → Disk) (journal : Kept D) : Type 0 where
  pub whole : IsWholeFile (disk journal.device)
  pub ends : journal.end ≡ records_end (recorded (disk journal.device).seen)
  pub counts : journal.count ≡ length (recorded (disk journal.device).seen)

-- it may be written to, and its file has these records
pub record IsOver {D : Type 0} (disk : D → Disk) (records : List (List ℕ)) (journal : Kept D) : Type 0 where
  pub writable : IsWritable disk journal
  pub are : recorded (disk journal.device).seen ≡ records

-- the file is at rest, and the journal's numbers are those of its records
pub record IsReady {D : Type 0} (disk : D → Disk) (journal : Kept D) : Type 0 where
  pub at_rest : IsAtRest (disk journal.device)
  pub ends : journal.end ≡ records_end (recorded (disk journal.device).seen)
  pub counts : journal.count ≡ length (recorded (disk journal.device).seen)

-- a journal with one more record that waits
abbrev pub with_waiting : {D : Type 0} → Kept D → List ℕ → Kept D
with_waiting journal bytes = record journal { waiting = journal.waiting ++ bytes ∷ [] }

-- the records that waited are in the file, after those from before
abbrev pub Acknowledges : {D : Type 0} → (D → Disk) → Kept D → Kept D → Type 0
Acknowledges disk before after = recorded (disk after.device).seen ≡ recorded (disk before.device).seen ++ before.waiting

-- a crash at any moment leaves the records from before, or these and all that waited
abbrev pub LeavesAllOrNone : {D : Type 0} → (D → Disk) → Kept D → Kept D → Type 0
LeavesAllOrNone disk before after =
    LeavesOnly (disk before.device) (disk after.device) (IsBeforeOrAfter (recorded (disk before.device).seen) before.waiting)

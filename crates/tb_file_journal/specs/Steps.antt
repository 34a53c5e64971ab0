-- What the journal's calls leave on a disk.
use Rattle.std.specs.Prelude.{◌≡◌, ◌⊎◌, ℕ, true, List, ◌++◌, length, take, Result, OnOk, ◌≤◌}
use Rattle.tb_file_journal.specs.declared.faults.JournalFault.{JournalFault}
use Rattle.tb_file_journal.specs.Device.{Disk, IsOnDisk, IsSettled, Torn, Cut, overwritten, LeavesOnly, HasCause}
use Rattle.tb_file_journal.specs.Contents.{Records, latch_closed, contents, recorded, records_end, Fits, at_rest}
use Rattle.std.specs.List.{AllByRecursion}

-- the file is whole blocks with a closed latch after them and nothing more
pub record IsWholeFile (disk : Disk) : Type 0 where
  pub reads : contents disk.seen ≡ Records (recorded disk.seen)
  pub closed : disk.seen ≡ take (records_end (recorded disk.seen)) disk.seen ++ latch_closed

-- the same, with all of it durable, and no sync has failed
pub record IsAtRest (disk : Disk) : Type 0 where
  pub reads : contents disk.seen ≡ Records (recorded disk.seen)
  pub closed : disk.seen ≡ take (records_end (recorded disk.seen)) disk.seen ++ latch_closed
  pub kept : IsOnDisk disk
  pub sound : disk.sound ≡ true

-- a file of these records, or of these with a whole batch after them
abbrev pub IsBeforeOrAfter : List (List ℕ) → List (List ℕ) → List ℕ → Type 0
IsBeforeOrAfter records batch file = (contents file ≡ Records records) ⊎ (contents file ≡ Records (records ++ batch))

-- a write and a sync
pub record Overwrites (at : ℕ) (bytes : List ℕ) (result : Result (Unit {0}) JournalFault) (before after : Disk) : Type 0 where
  pub ok : OnOk result (after.seen ≡ overwritten before.seen at bytes)
  pub settled : IsSettled before → OnOk result (IsSettled after)
  pub any_moment : IsSettled before → LeavesOnly before after (Torn at (length bytes) before.seen)
  pub cause : HasCause result before after

-- a cut and a sync
pub record Shortens (len : ℕ) (result : Result (Unit {0}) JournalFault) (before after : Disk) : Type 0 where
  pub ok : OnOk result (after.seen ≡ take len before.seen)
  pub settled : IsSettled before → OnOk result (IsSettled after)
  pub any_moment : IsSettled before → LeavesOnly before after (Cut len before.seen)
  pub cause : HasCause result before after

-- a batch is written after what is there
pub record Publishes (batch : List (List ℕ)) (result : Result (Unit {0}) JournalFault) (before after : Disk) : Type 0 where
  pub ok : OnOk result (IsWholeFile after × (recorded after.seen ≡ recorded before.seen ++ batch))
  pub settled : IsSettled before → OnOk result (IsSettled after)
  pub any_moment : IsSettled before → LeavesOnly before after (IsBeforeOrAfter (recorded before.seen) batch)
  pub cause : HasCause result before after

-- the same for the bytes of some records after the closed latch
abbrev pub WritesBatch : List ℕ → Result (Unit {0}) JournalFault → Disk → Disk → Type 0
WritesBatch bytes result before after =
    (records : List (List ℕ)) → AllByRecursion Fits records → bytes ≡ at_rest records → 1 ≤ length records → Publishes records result before after

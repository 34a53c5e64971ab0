-- Records that are read from a file one after another, and records that are put into a journal. Most of these only contracts of private
-- functions cite, here and in tb_log_file.
use Rattle.std.specs.Prelude.{ℕ, Bool, true, ◌≡◌, ◌⊎◌, ◌≤◌, ◌^◌, List, [], ◌∷◌, ◌++◌, length, Result, Ok, Err}
use Rattle.tb_file_journal.specs.declared.faults.JournalFault.{JournalFault}
use Rattle.tb_file_journal.specs.declared.opening.OpenFault.{OpenFault}
use Rattle.tb_file_journal.specs.declared.reading.Extent.{Extent}
use Rattle.tb_file_journal.specs.Device.{Disk, LeavesOnly, FailsNone, IsOnDisk}
use Rattle.tb_file_journal.specs.Contents.{Records, at_rest, contents, recorded}
use Rattle.tb_file_journal.specs.Reading.{extent_of}
use Rattle.tb_file_journal.specs.Ready.{Kept, IsReady}
use Rattle.tb_file_journal.specs.Scans.{BeginsWith, HasRead, ScanState, ReadsNextRecord}
use Rattle.tb_file.specs.Creating.{IsDiskUntouched}
use Rattle.tb_file.specs.Salvaging.{IsWriteCause}

-- the file is as it was at each moment, and durable if it was, and no further sync has failed
pub record StaysKept (before after : Disk) : Type 0 where
  pub untouched : IsDiskUntouched before after
  pub kept : IsOnDisk before → IsOnDisk after
  pub sound : after.sound ≡ before.sound

-- for each file that the device reads, and of which the records end there
abbrev pub OfExtent : (List ℕ → Type 0) → Extent → (List ℕ → Type 0) → Type 0
OfExtent holds extent Says = (file : List ℕ) → holds file → extent_of (contents file) ≡ Ok extent → Says file

-- a file that the device reads, and of which these records were read
abbrev pub HoldsRead : (List ℕ → Type 0) → List (List ℕ) → ScanState → List ℕ → Type 0
HoldsRead holds read scan file = holds file × HasRead read file scan

-- what the next step of a scan finds after these records
pub record IsNext (result : Result Bool OpenFault) (read : List (List ℕ)) (file : List ℕ) (scan : ScanState) : Type 0 where
  pub begins : BeginsWith read file
  pub reads : ReadsNextRecord result read file scan

-- a file that has some first ones of all these records, and at least these
abbrev pub IsBetween : List (List ℕ) → List (List ℕ) → List ℕ → Type 0
IsBetween least all c = (some : List (List ℕ)) × (rest : List (List ℕ)) × (contents c ≡ Records (least ++ some)) × (all ≡ (least ++ some) ++ rest)

-- what waits is a batch that ends with a record: it has at most 4 MiB, or this record alone
abbrev pub IsBatchWith : List ℕ → List (List ℕ) → Type 0
IsBatchWith bytes waiting = (length (at_rest waiting) ≤ 2 ^ 22) ⊎ (waiting ≡ bytes ∷ [])

module _ {N : Type 0} (disk : N → Disk) where
  -- the records of a journal: those in its file, and those that wait
  abbrev pub all_records : Kept N → List (List ℕ)
  all_records journal = recorded (disk journal.device).seen ++ journal.waiting

  -- more records were put after a journal's, and some of them may have been committed
  pub record Queues (records : List (List ℕ)) (before after : Kept N) : Type 0 where
    pub ready : IsReady disk after
    pub records_are : all_records after ≡ all_records before ++ records
    pub grown : (done : List (List ℕ)) × (recorded (disk after.device).seen ≡ recorded (disk before.device).seen ++ done)
    pub none : FailsNone (disk before.device) (disk after.device)
    pub any_moment : LeavesOnly (disk before.device) (disk after.device) (IsBetween (recorded (disk before.device).seen) (all_records before ++ records))

  -- or a call has failed meanwhile, there is no memory, or the file would be too long
  pub record FailsWriting (fault : JournalFault) (records : List (List ℕ)) (before after : Kept N) : Type 0 where
    pub cause : IsWriteCause (disk before.device) (disk after.device) fault
    pub any_moment : LeavesOnly (disk before.device) (disk after.device) (IsBetween (recorded (disk before.device).seen) (all_records before ++ records))

  module _ (tells : Type 0) where
    -- these records wait, or were committed; or the writing of the journal failed
    abbrev pub Puts : Result (Unit {0}) JournalFault → List (List ℕ) → Kept N → Kept N → Type 0
    Puts (Ok done) records before after = (after.usable ≡ true) × (tells → Queues records before after)
    Puts (Err fault) records before after = tells → FailsWriting fault [] before after

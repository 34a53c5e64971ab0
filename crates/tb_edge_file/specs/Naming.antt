-- What is said of a file that is refused: what it is, by its first bytes, which entry is damaged, and the rules that it was made with.
use Rattle.std.specs.Prelude.{ℕ, Bool, true, false, ◌≡◌, ◌⊎◌, ◌==◌, if◌then◌else◌, List, length, Option, Some, None, Result, Ok, Err}
use Rattle.tb_file_journal.specs.declared.devices.Device as devices
use Rattle.tb_file_journal.specs.declared.faults.JournalFault.{JournalFault}
use Rattle.tb_file_journal.specs.declared.opening.OpenFault.{OpenFault}
use Rattle.tb_file_journal.specs.declared.reading.Extent.{Extent}
use Rattle.tb_file_journal.specs.Contents.{Damaged as damaged, Records, contents, records_end}
use Rattle.tb_file_journal.specs.Device.{Looks}
use Rattle.tb_file_journal.specs.Opening.{HasOpenCause, RefusesFile}
use Rattle.tb_file_journal.specs.Scans.{BeginsWith}
use Rattle.tb_file.specs.declared.faults.StartFault.{StartFault}
use Rattle.tb_file.specs.declared.faults.StartFault.TheVariants as start
use Rattle.tb_file.specs.declared.recovering.Rules.{Rules}
use Rattle.tb_file.specs.Creating.{IsDiskUntouched}
use Rattle.tb_file.specs.Reading.{RulesAnswer}
use Rattle.tb_file.specs.Recovering.{HasStartCause}
use Rattle.tb_edge_file.specs.declared.faults.Damage.{Damage}
use Rattle.tb_edge_file.specs.declared.faults.KeepCommandFault.{KeepCommandFault}
use Rattle.tb_edge_file.specs.declared.faults.Damage.TheVariants.{Block}
use Rattle.tb_edge_file.specs.declared.faults.KeepCommandFault.TheVariants.{NotAJournal, NoHead, Damaged, OtherRules}
use Rattle.tb_edge_file.specs.declared.faults.Mismatch.{Mismatch}
use Rattle.tb_edge_file.specs.declared.kinds.FileKind.{FileKind}
use Rattle.tb_edge_file.specs.declared.kinds.FileKind.TheVariants.{NoRecord, Closed, Begun}
use Rattle.tb_edge_file.specs.Kinds.{kind_by}
use Rattle.tb_edge_file.specs.ExitStatuses.{is_of_head, numbers_of, started_fault}

-- the rules that were read, and those that were asked for; None if they were not read
abbrev pub mismatch : Result Rules StartFault → Rules → Option Mismatch
mismatch (Ok made) asked = Some (record { made = numbers_of made; asked = numbers_of asked })
mismatch (Err fault) asked = None

-- a file begins with this many records, which end there; after them there is no record, or a block that is not what was written
abbrev pub IsReadable : Result Extent OpenFault → List ℕ → Type 0
IsReadable (Ok extent) file =
    (records : List (List ℕ)) × BeginsWith records file × (extent.end ≡ records_end records) × (extent.count ≡ length records)
    × ((contents file ≡ damaged extent.end) ⊎ (contents file ≡ Records records))
IsReadable (Err fault) file = RefusesFile fault file

-- the number of the record at an offset, if a file is readable up to there
abbrev pub entry_by : ℕ → Result Extent OpenFault → Option ℕ
entry_by at (Ok extent) = if extent.end == at then Some extent.count else None
entry_by at (Err fault) = None

-- the fault of a journal that has no record, or whose first one is no ledger's head: what it is instead
abbrev pub headless_fault : FileKind → KeepCommandFault
headless_fault NoRecord = NotAJournal NoRecord
headless_fault Closed = NotAJournal Closed
headless_fault kind = NoHead

-- the fault of a journal whose first block is not what was written: it may end before its first record
abbrev pub first_block_fault : Damage → FileKind → KeepCommandFault
first_block_fault damage Begun = NotAJournal Begun
first_block_fault damage kind = Damaged damage

module _ {D : Type 0} (its : devices.Ghosts D) where
  -- the first bytes of the file of a device were read, or it failed
  pub record IsOfKind (kind : FileKind) (device after : D) : Type 0 where
    pub read : Result ℕ JournalFault
    pub kind_is : (file : List ℕ) → its.holds device file → kind ≡ kind_by read file
    pub looks : its.tells → Looks read (its.disk device) (its.disk after)

  -- the records before an offset were counted
  pub record IsEntryAt (at : ℕ) (entry : Option ℕ) (device after : D) : Type 0 where
    pub read : Result Extent OpenFault
    pub entry_is : entry ≡ entry_by at read
    pub of_file : (file : List ℕ) → its.holds device file → IsReadable read file
    pub untouched : its.tells → IsDiskUntouched (its.disk device) (its.disk after)
    pub cause : its.tells → HasOpenCause read (its.disk device) (its.disk after)

  -- the first bytes of a journal without a ledger's head were read
  abbrev pub NamesHeadless : KeepCommandFault → D → D → Type 0
  NamesHeadless fault device after = (kind : FileKind) × (fault ≡ headless_fault kind) × IsOfKind kind device after

  -- the same if the first block of a journal is damaged; otherwise the fault says what is damaged
  abbrev pub NamesFirst : Bool → Damage → KeepCommandFault → D → D → Type 0
  NamesFirst true damage fault device after = (kind : FileKind) × (fault ≡ first_block_fault damage kind) × IsOfKind kind device after
  NamesFirst false damage fault device after = (fault ≡ Damaged damage) × (after ≡ device)

  -- the records before a block that is not what was written were counted; if there are no such records, the first bytes were read
  abbrev pub NamesBlock : ℕ → KeepCommandFault → D → D → Type 0
  NamesBlock at fault device after =
      (entry : Option ℕ) × (counted : D) × IsEntryAt at entry device counted × NamesFirst (is_of_head (Block at entry)) (Block at entry) fault counted after

  -- if a file is no journal, or has no head, the fault says what it is; if a block is not what was written, it says which entry it is of
  abbrev pub Names : KeepCommandFault → KeepCommandFault → D → D → Type 0
  Names (NotAJournal kind) fault device after = (found : FileKind) × (fault ≡ NotAJournal found) × IsOfKind found device after
  Names NoHead fault device after = NamesHeadless fault device after
  Names (Damaged (Block at uncounted)) fault device after = NamesBlock at fault device after
  Names named fault device after = (fault ≡ named) × (after ≡ device)

  -- the rules of the file were read
  pub record IsMadeWith (asked : Rules) (numbers : Option Mismatch) (device after : D) : Type 0 where
    pub made : Result Rules StartFault
    pub numbers_are : numbers ≡ mismatch made asked
    pub of_file : (file : List ℕ) → its.holds device file → RulesAnswer made file
    pub cause : its.tells → HasStartCause made (its.disk device) (its.disk after)

  -- if a file has other rules than were asked for, the fault says which these are
  abbrev pub NamesAsked : Rules → StartFault → KeepCommandFault → D → D → Type 0
  NamesAsked asked start.OtherRules fault device after = (numbers : Option Mismatch) × (fault ≡ OtherRules numbers) × IsMadeWith asked numbers device after
  NamesAsked asked cause fault device after = Names (started_fault cause) fault device after

-- cited only by private functions

-- a call left a device of which this holds
abbrev pub Left : {D : Type 0} → (D → Type 0) → Type 0
Left {D} Leaves = (after : D) × Leaves after

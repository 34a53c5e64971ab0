-- How a journal is opened, and what remains of its file.
use Rattle.std.specs.Prelude.{◌≡◌, ◌⊎◌, ℕ, ◌+◌, ◌<◌, ◌^◌, List, [], length, Result, Ok, Err, IfOk, IfErr, OnOk, true}
use Rattle.tb_file_journal.specs.declared.faults.JournalFault.{JournalFault}
use Rattle.tb_file_journal.specs.declared.faults.JournalFault.TheVariants as faults
use Rattle.tb_file_journal.specs.declared.reading.Extent.{Extent}
use Rattle.tb_file_journal.specs.declared.reading.Refusal.{Refusal}
use Rattle.tb_file_journal.specs.declared.reading.Refusal.TheVariants as refusals
use Rattle.tb_file_journal.specs.declared.opening.OpenFault.{OpenFault}
use Rattle.tb_file_journal.specs.declared.opening.OpenFault.TheVariants as open_faults
use Rattle.tb_file_journal.specs.declared.opening.NotOpened.{NotOpened}
use Rattle.tb_file_journal.specs.Device.{Disk, IsSettled, LeavesOnly, FailsNone, HasCause, IsCause, SetsAside}
use Rattle.tb_file_journal.specs.Contents.{Contents, NotAJournal, Damaged, Records, contents, recorded, records_end}
use Rattle.tb_file_journal.specs.Steps.{IsWholeFile}
use Rattle.tb_file_journal.specs.Ready.{Kept, IsReady}

-- the contents of a file that is refused
abbrev pub refused_as : Refusal → Contents
refused_as refusals.NotAJournal = NotAJournal
refused_as (refusals.Damaged at) = Damaged at

-- a file that a crash might have left before, or the one that a read returned
abbrev pub IsAsBefore : Disk → List ℕ → Type 0
IsAsBefore before file = before.may_leave file ⊎ (file ≡ before.seen)

-- a crash at any moment leaves such a file
abbrev pub LeavesAsBefore : Disk → Disk → Type 0
LeavesAsBefore before after = LeavesOnly before after (IsAsBefore before)

-- a file that a crash might have left before, or one that represents what was read
abbrev pub StandsForTheSame : Disk → List ℕ → Type 0
StandsForTheSame before file = before.may_leave file ⊎ (contents file ≡ contents before.seen)

-- why a journal is not opened: the file is refused, the fault has a cause, or the file has no space for a closed latch
abbrev pub IsOpenCause : Disk → Disk → OpenFault → Type 0
IsOpenCause before after (open_faults.Refused why) = (contents before.seen ≡ refused_as why) × FailsNone before after
IsOpenCause before after (open_faults.Device fault) =
    IsCause before after fault ⊎ ((fault ≡ faults.Full) × (2 ^ 62 < length before.seen + 4) × FailsNone before after)

-- a fault of the device or of memory, not a refusal of the file
abbrev pub IsOfDevice : OpenFault → Type 0
IsOfDevice (open_faults.Refused why) = ⊥
IsOfDevice (open_faults.Device fault) = Unit {0}

-- a file that is refused is no journal, or is damaged there
abbrev pub RefusesFile : OpenFault → List ℕ → Type 0
RefusesFile (open_faults.Refused why) file = contents file ≡ refused_as why
RefusesFile (open_faults.Device fault) file = Unit {0}

-- a refusal leaves the file as it was, at each moment
abbrev pub IsUntouched : Disk → Disk → OpenFault → Type 0
IsUntouched before after (open_faults.Refused why) = (after.seen ≡ before.seen) × LeavesOnly before after (IsAsBefore before)
IsUntouched before after (open_faults.Device fault) = Unit {0}

-- the device of a journal, or the device that is given back
abbrev pub device_left : {D : Type 0} → Result (Kept D) (NotOpened D) → D
device_left (Ok journal) = journal.device
device_left (Err failed) = failed.device

-- the fault for which it is given back
abbrev pub fault_left : {D : Type 0} → Result (Kept D) (NotOpened D) → Result (Unit {0}) OpenFault
fault_left (Ok journal) = Ok tt
fault_left (Err failed) = Err failed.fault

-- the cause of the fault for which a device is given back, by the disk before the call and after it
abbrev pub CausedBy : {D : Type 0} → (D → Disk) → D → Result (Kept D) (NotOpened D) → (Result (Unit {0}) OpenFault → Disk → Disk → Type 0) → Type 0
CausedBy disk device result Has = Has (fault_left result) (disk device) (disk (device_left result))

-- if a device is given back: what is left of its file
abbrev pub GivesBack : {D : Type 0} → (D → Disk) → D → Result (Kept D) (NotOpened D) → (Disk → Disk → OpenFault → Type 0) → Type 0
GivesBack disk device result Leaves = IfErr result (λ failed. Leaves (disk device) (disk failed.device) failed.fault)

-- an error has a cause
pub record HasOpenCause {T : Type 0} (result : Result T OpenFault) (before after : Disk) : Type 0 where
  pub ok : OnOk result (FailsNone before after)
  pub cause : IfErr result (IsOpenCause before after)

-- the journal of a file with this content: ready, with the same records, and no waiting records
pub record IsOpened {D : Type 0} (disk : D → Disk) (file : List ℕ) (journal : Kept D) : Type 0 where
  pub reads : contents file ≡ Records (recorded file)
  pub ready : IsReady disk journal
  pub same : recorded (disk journal.device).seen ≡ recorded file
  pub none_waits : journal.waiting ≡ []

-- if no sync has failed before: the journal of what a read returned
abbrev pub OpensIfSound : {D : Type 0} → (D → Disk) → D → Result (Kept D) (NotOpened D) → Type 0
OpensIfSound disk device result = (disk device).sound ≡ true → IfOk result (IsOpened disk (disk device).seen)

-- a journal whose records end there and are so many, and no records wait
abbrev pub IsOfExtent : {D : Type 0} → Extent → Kept D → Type 0
IsOfExtent extent journal = (journal.end ≡ extent.end) × (journal.count ≡ extent.count) × (journal.waiting ≡ [])

-- the journal of the records of a file, or why the file is refused
abbrev pub Recovers : {D : Type 0} → Result (Kept D) (NotOpened D) → List ℕ → Type 0
Recovers (Ok journal) file =
    (contents file ≡ Records (recorded file)) × IsOfExtent (record { end = records_end (recorded file); count = length (recorded file) }) journal
Recovers (Err failed) file = RefusesFile failed.fault file

-- if a journal is opened, the bytes after the closed latch that ends its records were set aside
abbrev pub IsAsideBehind : {D : Type 0} → (ℕ → List ℕ → Type 0) → Result (Kept D) (NotOpened D) → List ℕ → Type 0
IsAsideBehind saved result file = IfOk result (λ journal. SetsAside saved (journal.end + 4) file)

-- what follows the closed latch after the records is cut off
pub record Repairs (result : Result (Unit {0}) JournalFault) (before after : Disk) : Type 0 where
  pub ok : OnOk result (IsWholeFile after × (recorded after.seen ≡ recorded before.seen))
  pub settled : IsSettled before → OnOk result (IsSettled after)
  pub any_moment : IsSettled before → LeavesOnly before after (λ file. contents file ≡ Records (recorded before.seen))
  pub cause : HasCause result before after

-- if no sync has failed before, a crash at any moment leaves the same records
abbrev pub LeavesSameRecords : Disk → Disk → Type 0
LeavesSameRecords before after = before.sound ≡ true → LeavesOnly before after (λ file. contents file ≡ Records (recorded before.seen))

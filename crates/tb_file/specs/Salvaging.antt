-- What is copied from a file into a new one, and what a crash may leave of that meanwhile.
use Rattle.std.specs.Prelude.{ℕ, true, ◌≡◌, ◌⊎◌, ◌+◌, ◌<◌, ◌≤◌, ◌^◌, List, [], ◌∷◌, ◌++◌, length, Option, None, Some, Result, Ok, Err, OnOk, IfErr}
use Rattle.tb_file_journal.specs.declared.faults.JournalFault.{JournalFault}
use Rattle.tb_file_journal.specs.declared.faults.JournalFault.TheVariants.{Memory, Full, NotEmpty}
use Rattle.tb_file_journal.specs.declared.opening.OpenFault.TheVariants as open_faults
use Rattle.tb_file_journal.specs.declared.reading.Refusal.TheVariants as refusals
use Rattle.tb_file_journal.specs.Device.{Disk, LeavesOnly, FailsNone, HasFailed}
use Rattle.tb_file_journal.specs.Contents.{NotAJournal, Damaged, Records, contents, records_end}
use Rattle.tb_file_journal.specs.Creating.{is_blank, IsUnborn, IsCreateCause}
use Rattle.tb_file_journal.specs.Opening.{IsAsBefore}
use Rattle.tb_file_journal.specs.Scans.{BeginsWith}
use Rattle.tb_machine.specs.Histories.{State}
use Rattle.tb_file.specs.declared.faults.SalvageFault.{SalvageFault}
use Rattle.tb_file.specs.declared.faults.SalvageFault.TheVariants.{Old, New}
use Rattle.tb_file.specs.declared.faults.StartFault.{StartFault}
use Rattle.tb_file.specs.declared.faults.StartFault.TheVariants as start
use Rattle.tb_file.specs.declared.salvaging.NotSalvaged.{NotSalvaged}
use Rattle.tb_file.specs.declared.salvaging.Salvaged.{Salvaged}
use Rattle.tb_file.specs.Keeping.{History, history_state, records_of, Keeping, Keeps, IsUsable, IsKeepable, IsLedger}
use Rattle.tb_file.specs.Creating.{IsDiskUntouched}
use Rattle.tb_file.specs.Reading.{BeginsWithNoHead, IsNoHistory}
use Rattle.tb_file.specs.Recovering.{StopsAt, IsTornTooLong, torn_bytes}

-- a fault of the file that is read, or of the new one; the other has no fault
abbrev pub old_part : SalvageFault → Result (Unit {0}) StartFault
old_part (Old fault) = Err fault
old_part (New fault) = Ok tt

abbrev pub new_part : SalvageFault → Result (Unit {0}) StartFault
new_part (Old fault) = Ok tt
new_part (New fault) = Err fault

abbrev pub why_old : {T N : Type 0} → Result T (NotSalvaged N) → Result (Unit {0}) StartFault
why_old (Ok value) = Ok tt
why_old (Err failed) = old_part failed.fault

abbrev pub why_new : {T N : Type 0} → Result T (NotSalvaged N) → Result (Unit {0}) StartFault
why_new (Ok value) = Ok tt
why_new (Err failed) = new_part failed.fault

-- for each file that the device reads, why it was not copied
abbrev pub SaysWhy : {T N : Type 0} → (List ℕ → Type 0) → Result T (NotSalvaged N) → (SalvageFault → List ℕ → Type 0) → Type 0
SaysWhy holds result Is = (file : List ℕ) → holds file → IfErr result (λ failed. Is failed.fault file)

-- the device of the new file
abbrev pub salvaged_device : {N : Type 0} → Result (Salvaged N) (NotSalvaged N) → N
salvaged_device (Ok salvaged) = salvaged.keeper.journal.device
salvaged_device (Err failed) = failed.device

abbrev pub backup_device : {N : Type 0} → Result (Keeping N) (NotSalvaged N) → N
backup_device (Ok keeper) = keeper.journal.device
backup_device (Err failed) = failed.device

-- why no more is copied from a file after these records, by which a machine was led to a state. The file ends there, with few torn bytes after it; or
-- it is the fault for which a start refuses it: too many of them, damage, or one more record that is not that of the next entry
abbrev pub StopsBehind : Option StartFault → List (List ℕ) → State → List ℕ → Type 0
StopsBehind None records S file = (contents file ≡ Records records) × (torn_bytes file ≤ 2 ^ 22)
StopsBehind (Some (start.TornTooLong at bytes)) records S file = (contents file ≡ Records records) × IsTornTooLong at bytes file
StopsBehind (Some (start.Journal (open_faults.Refused (refusals.Damaged at)))) records S file = (contents file ≡ Damaged at) × (at ≡ records_end records)
StopsBehind (Some (start.Record place fault)) records S file =
    (bytes : List ℕ) × BeginsWith (records ++ bytes ∷ []) file × StopsAt (start.Record place fault) S bytes
StopsBehind (Some (start.Entry fault)) records S file = (bytes : List ℕ) × BeginsWith (records ++ bytes ∷ []) file × StopsAt (start.Entry fault) S bytes
StopsBehind stop records S file = ⊥

-- a history was copied from a file: the file begins with its records, after which no more can be copied
pub record IsHistoryTaken (h : History) (end : ℕ) (stop : Option StartFault) (file : List ℕ) : Type 0 where
  pub begins : BeginsWith (records_of h) file
  pub end_is : end ≡ records_end (records_of h)
  pub stops : StopsBehind stop (records_of h) (history_state h) file

-- a keeper of the new file that keeps a history and may serve
pub record IsNewKeeper (tells : Type 0) {N : Type 0} (disk : N → Disk) (h : History) (keeper : Keeping N) : Type 0 where
  pub keepable : IsKeepable h
  pub state : keeper.state ≡ history_state h
  pub kept : tells → Keeps disk h keeper
  pub usable : IsUsable keeper
  pub uncut : keeper.cut ≡ 0

-- the new file has the history that was copied from the one that is read
pub record IsSalvaged (tells : Type 0) {N : Type 0} (disk : N → Disk) (holds : List ℕ → Type 0) (salvaged : Salvaged N) : Type 0 where
  pub history : History
  pub keeper : IsNewKeeper tells disk history salvaged.keeper
  pub taken : (file : List ℕ) → holds file → IsHistoryTaken history salvaged.end salvaged.stop file

-- the new file has the history that the one that is read represents, with few torn bytes after it
pub record IsBackedUp (tells : Type 0) {N : Type 0} (disk : N → Disk) (holds : List ℕ → Type 0) (keeper : Keeping N) : Type 0 where
  pub history : History
  pub kept : IsNewKeeper tells disk history keeper
  pub whole : (file : List ℕ) → holds file → IsLedger history file × (torn_bytes file ≤ 2 ^ 22)

-- why nothing is copied from a file: it is no journal, its first block is damaged, or its first record is no head. For any other fault the file is
-- not the reason
abbrev pub IsUnsalvaged : SalvageFault → List ℕ → Type 0
IsUnsalvaged (Old start.Head) file = BeginsWithNoHead file
IsUnsalvaged (Old (start.Journal (open_faults.Refused refusals.NotAJournal))) file = contents file ≡ NotAJournal
IsUnsalvaged (Old (start.Journal (open_faults.Refused (refusals.Damaged at)))) file = (contents file ≡ Damaged at) × (at ≡ 8)
IsUnsalvaged (Old (start.Journal (open_faults.Device fault))) file = Unit {0}
IsUnsalvaged (Old start.NoMemory) file = Unit {0}
IsUnsalvaged (Old fault) file = ⊥
IsUnsalvaged (New fault) file = Unit {0}

-- why a file is not backed up: it represents no history, or too many torn bytes are after it
abbrev pub IsNotBackedUp : SalvageFault → List ℕ → Type 0
IsNotBackedUp (Old (start.TornTooLong at bytes)) file = IsTornTooLong at bytes file
IsNotBackedUp (Old start.NoMemory) file = Unit {0}
IsNotBackedUp (Old fault) file = IsNoHistory fault file
IsNotBackedUp (New fault) file = Unit {0}

-- why a file is not written to if no call has failed: there is no memory, or the file, one batch and a record have more bytes than a file can have
abbrev pub IsOwnWriteCause : List ℕ → JournalFault → Type 0
IsOwnWriteCause file Memory = Unit {0}
IsOwnWriteCause file Full = 2 ^ 62 < length file + 2 ^ 25
IsOwnWriteCause file fault = ⊥

-- the cause of a fault of the new file: that of its creation; or a call has failed; or no call has, and it is one of these
abbrev pub IsWriteCause : Disk → Disk → JournalFault → Type 0
IsWriteCause before after fault = HasFailed before after fault ⊎ (IsOwnWriteCause after.seen fault × FailsNone before after)

abbrev pub IsNewCause : Disk → Disk → StartFault → Type 0
IsNewCause before after (start.Journal (open_faults.Device fault)) =
    IsCreateCause before after (open_faults.Device fault) ⊎ IsWriteCause before after fault
IsNewCause before after start.NoMemory = FailsNone before after
IsNewCause before after fault = ⊥

-- if something is in the place of the new file, that is as it was
abbrev pub IsLeftAlone : Disk → Disk → StartFault → Type 0
IsLeftAlone before after (start.Journal (open_faults.Device NotEmpty)) = IsDiskUntouched before after
IsLeftAlone before after fault = Unit {0}

pub record HasNewCause {T : Type 0} (result : Result T StartFault) (before after : Disk) : Type 0 where
  pub ok : OnOk result (FailsNone before after)
  pub cause : IfErr result (IsNewCause before after)
  pub alone : IfErr result (IsLeftAlone before after)

-- the same, by the device of the new file before the call and after it
abbrev pub NewCause : {T N : Type 0} → (N → Disk) → N → Result T (NotSalvaged N) → N → Type 0
NewCause disk into result after = HasNewCause (why_new result) (disk into) (disk after)

-- what a crash may leave of the new file: what was there before, or, if that was blank, no record, or a history with whose records the
-- file that is read begins
abbrev pub MayBeSalvaged : (List ℕ → Type 0) → Disk → List ℕ → Type 0
MayBeSalvaged holds before c =
    IsAsBefore before c
    ⊎ ((is_blank before.seen ≡ true)
    × (IsUnborn c ⊎ ((contents c ≡ Records []) ⊎ ((h : History) × IsLedger h c × ((file : List ℕ) → holds file → BeginsWith (records_of h) file)))))

-- a crash at any moment of a call leaves no entry in the new file, or some first ones of the file that is read
abbrev pub LeavesSome : {N : Type 0} → (N → Disk) → (List ℕ → Type 0) → N → N → Type 0
LeavesSome disk holds into after = LeavesOnly (disk into) (disk after) (MayBeSalvaged holds (disk into))

-- no legal history with whose records the file begins has more of them than the one that is copied
abbrev pub IsLongest : Type 0
IsLongest = (h k : History) (end : ℕ) (stop : Option StartFault) (file : List ℕ) → IsKeepable h → IsKeepable k → IsHistoryTaken h end stop file → BeginsWith (records_of k) file
    → (rest : List (List ℕ)) × (records_of h ≡ records_of k ++ rest)

-- How a kept file is created and opened, and what a crash may leave of it meanwhile.
use Rattle.std.specs.Prelude.{ℕ, true, false, ◌≡◌, ◌⊎◌, ◌≤◌, ◌^◌, List, [], ◌∷◌, Result, Ok, Err, OnOk, IfOk, IfErr}
use Rattle.tb_records.specs.declared.limits.Profile.{Profile}
use Rattle.tb_file_journal.specs.declared.faults.JournalFault.TheVariants.{NotEmpty}
use Rattle.tb_file_journal.specs.declared.opening.OpenFault.TheVariants as open_faults
use Rattle.tb_file_journal.specs.Device.{Disk, FailsNone, LeavesIfSound}
use Rattle.tb_file_journal.specs.Contents.{Records, contents, recorded}
use Rattle.tb_file_journal.specs.Opening.{IsAsBefore, LeavesAsBefore}
use Rattle.tb_file_journal.specs.Creating.{is_blank, IsUnborn, IsCreateCause}
use Rattle.tb_machine.specs.declared.entries.Entry.{Entry}
use Rattle.tb_machine.specs.Histories.{start as start_state}
use Rattle.tb_file.specs.declared.faults.StartFault.{StartFault}
use Rattle.tb_file.specs.declared.faults.StartFault.TheVariants as start
use Rattle.tb_file.specs.declared.creating.NotKept.{NotKept}
use Rattle.tb_file.specs.declared.recovering.Rules.{Rules}
use Rattle.tb_file.specs.Keeping.{History, records_of, head_record, Keeping, Keeps}
use Rattle.tb_file.specs.Recovering.{StopsOpening, IsRestored, IsStartCause, IsNotOfFile, torn_bytes}

-- a history of these rules
abbrev pub history_of : Profile → ℕ → List Entry → History
history_of profile clients_max entries = record { profile = profile; clients_max = clients_max; entries = entries }

-- the records are those of the history; a file without records has the empty one
abbrev pub StandFor : History → List (List ℕ) → Type 0
StandFor h records = (records ≡ records_of h) ⊎ ((records ≡ []) × (h.entries ≡ []))

-- the device of a keeper, or the one that is returned
abbrev pub keeper_device_left : {D : Type 0} → Result (Keeping D) (NotKept D) → D
keeper_device_left (Ok keeper) = keeper.journal.device
keeper_device_left (Err failed) = failed.device

-- and why it is returned
abbrev pub why_left : {T D : Type 0} → Result T (NotKept D) → Result (Unit {0}) StartFault
why_left (Ok value) = Ok tt
why_left (Err failed) = Err failed.fault

module _ {D : Type 0} (disk : D → Disk) (profile : Profile) (clients_max : ℕ) where
  -- the keeper of the history that the file had
  pub record IsOpenedLedger (file : List ℕ) (keeper : Keeping D) : Type 0 where
    pub entries : List Entry
    pub reads : contents file ≡ Records (recorded file)
    pub found : StandFor (history_of profile clients_max entries) (recorded file)
    pub keeps : Keeps disk (history_of profile clients_max entries) keeper
    pub cut : keeper.cut ≡ torn_bytes file

  -- the keeper of a file that was opened, or of one that was blank
  abbrev pub IsStarted : List ℕ → Keeping D → Type 0
  IsStarted file keeper = IsOpenedLedger file keeper ⊎ ((is_blank file ≡ true) × Keeps disk (history_of profile clients_max []) keeper × (keeper.cut ≡ 0))

-- by the file that the device reads: the machine is in the state after the entries of its records, and its torn bytes, which are few, were cut off;
-- or it is reported why not
abbrev pub OpensFile : {D : Type 0} → Result (Keeping D) (NotKept D) → Profile → ℕ → List ℕ → Type 0
OpensFile (Ok keeper) profile clients_max file =
    (contents file ≡ Records (recorded file)) × IsRestored profile clients_max (recorded file) keeper.state
    × (keeper.cut ≡ torn_bytes file) × (torn_bytes file ≤ 2 ^ 22)
OpensFile (Err failed) profile clients_max file = StopsOpening failed.fault profile clients_max file

-- by the same: a ledger is created in a blank file. If something else is in it, the device that is returned still reads that file
abbrev pub CreatesLedgerIn : {T D : Type 0} → (D → List ℕ → Type 0) → Result T (NotKept D) → List ℕ → Type 0
CreatesLedgerIn holds (Ok value) file = is_blank file ≡ true
CreatesLedgerIn holds (Err failed) file =
    failed.fault ≡ start.Journal (open_faults.Device NotEmpty) → (is_blank file ≡ false) × holds failed.device file

-- by the same: a blank file has a ledger without entries, and any other is opened; or it is reported why not
abbrev pub StartsFile : {D : Type 0} → Result (Keeping D) (NotKept D) → Profile → ℕ → List ℕ → Type 0
StartsFile (Ok keeper) profile clients_max file =
    OpensFile (Ok keeper) profile clients_max file
    ⊎ ((is_blank file ≡ true) × (keeper.state ≡ start_state profile clients_max) × (keeper.cut ≡ 0))
StartsFile (Err failed) profile clients_max file =
    IsNotOfFile failed.fault ⊎ (StopsOpening failed.fault profile clients_max file × (is_blank file ≡ false))

-- the file is unchanged, and was so at each moment
pub record IsDiskUntouched (before after : Disk) : Type 0 where
  pub seen : after.seen ≡ before.seen
  pub any_moment : LeavesAsBefore before after

-- if something is in the file nothing is created: the file is as it was, and no further sync has failed
abbrev pub IsCreateRefused : StartFault → Disk → Disk → Type 0
IsCreateRefused (start.Journal (open_faults.Device NotEmpty)) before after = IsDiskUntouched before after × (after.sound ≡ before.sound)
IsCreateRefused (start.Journal (open_faults.Device fault)) before after = Unit {0}
IsCreateRefused start.NoMemory before after = IsDiskUntouched before after
IsCreateRefused fault before after = ⊥

-- the cause of a fault: a fault of the journal has a cause from its creation; after any other fault no call has failed
abbrev pub IsCreateStartCause : Disk → Disk → StartFault → Type 0
IsCreateStartCause before after (start.Journal fault) = IsCreateCause before after fault
IsCreateStartCause before after fault = FailsNone before after

pub record HasCreateStartCause {T : Type 0} (result : Result T StartFault) (before after : Disk) : Type 0 where
  pub ok : OnOk result (FailsNone before after)
  pub cause : IfErr result (IsCreateStartCause before after)

-- the same for a file that is created or opened: the fault is never NotEmpty
abbrev pub IsEitherCause : Disk → Disk → StartFault → Type 0
IsEitherCause before after (start.Journal (open_faults.Device NotEmpty)) = ⊥
IsEitherCause before after fault = IsCreateStartCause before after fault ⊎ IsStartCause before after fault

pub record HasEitherCause {T : Type 0} (result : Result T StartFault) (before after : Disk) : Type 0 where
  pub ok : OnOk result (FailsNone before after)
  pub cause : IfErr result (IsEitherCause before after)

-- if a device is returned, why it is, and what is left of its file
abbrev pub GivesDeviceBack : {T D : Type 0} → (D → Disk) → D → Result T (NotKept D) → (StartFault → Disk → Disk → Type 0) → Type 0
GivesDeviceBack disk device result Is = IfErr result (λ failed. Is failed.fault (disk device) (disk failed.device))

-- the cause of the fault for which it is, by the disk before the call and after it
abbrev pub Causes : {T D : Type 0} → (D → Disk) → D → Result T (NotKept D) → D → (Result (Unit {0}) StartFault → Disk → Disk → Type 0) → Type 0
Causes disk device result after Has = Has (why_left result) (disk device) (disk after)

-- for a call by rules
module _ {D : Type 0} (disk : D → Disk) (rules : Rules) where
  -- if no sync has failed before, it returns such a keeper for the file that was there
  abbrev pub GivesIfSound : D → Result (Keeping D) (NotKept D) → ((D → Disk) → Profile → ℕ → List ℕ → Keeping D → Type 0) → Type 0
  GivesIfSound device result Is = (disk device).sound ≡ true → IfOk result (Is disk rules.profile rules.clients_max (disk device).seen)

  -- if no sync has failed before, a crash at any moment of it leaves such a file
  abbrev pub LeavesBy : D → D → (Profile → ℕ → Disk → List ℕ → Type 0) → Type 0
  LeavesBy before after May = LeavesIfSound disk before after (May rules.profile rules.clients_max)

  -- if it returns the device, why it does, and what is left of its file
  abbrev pub GivesBackBy : {T : Type 0} → D → Result T (NotKept D) → (Profile → ℕ → StartFault → Disk → Disk → Type 0) → Type 0
  GivesBackBy device result Is = GivesDeviceBack disk device result (Is rules.profile rules.clients_max)

module _ (profile : Profile) (clients_max : ℕ) where
  -- no record, or a head and nothing after it
  abbrev pub HasNoEntry : List ℕ → Type 0
  HasNoEntry file = (contents file ≡ Records []) ⊎ (contents file ≡ Records (head_record profile clients_max ∷ []))

  -- what a crash may leave while a file is opened: the file as it was, or one with the same records; one without records may then have a head
  abbrev pub MayBeOpened : Disk → List ℕ → Type 0
  MayBeOpened before file = IsAsBefore before file ⊎ (contents file ≡ Records (recorded before.seen)) ⊎ ((recorded before.seen ≡ []) × HasNoEntry file)

  -- and while one is created: the file as it was, or, if that was blank, one without entries
  abbrev pub LedgerMayBeCreated : Disk → List ℕ → Type 0
  LedgerMayBeCreated before file = IsAsBefore before file ⊎ ((is_blank before.seen ≡ true) × (IsUnborn file ⊎ HasNoEntry file))

  abbrev pub MayBeStarted : Disk → List ℕ → Type 0
  MayBeStarted before file = MayBeOpened before file ⊎ LedgerMayBeCreated before file

  -- why a file is not opened: it is no journal or is damaged, it begins with records of which the last is not that of the next entry by these
  -- rules, or too much would have to be cut off. Then, and if there is no memory to restore it, it is as it was. After any other fault the device
  -- failed, or was full (IsStartCause)
  abbrev pub IsOpenRefused : StartFault → Disk → Disk → Type 0
  IsOpenRefused (start.Journal (open_faults.Device fault)) before after = Unit {0}
  IsOpenRefused fault before after = StopsOpening fault profile clients_max before.seen × IsDiskUntouched before after

  -- the same for a start, which never refuses a blank file for its content
  abbrev pub IsStartRefused : StartFault → Disk → Disk → Type 0
  IsStartRefused (start.Journal (open_faults.Device fault)) before after = Unit {0}
  IsStartRefused start.NoMemory before after = IsDiskUntouched before after
  IsStartRefused fault before after = IsOpenRefused fault before after × (is_blank before.seen ≡ false)

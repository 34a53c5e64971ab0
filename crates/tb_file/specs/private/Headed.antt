-- Journals that have a head: only for private functions.
use Rattle.std.specs.Prelude.{ℕ, ◌≡◌, ◌⊎◌, List, [], ◌∷◌, Result, Ok, Err, OnOk, IfOk, IfErr, true}
use Rattle.tb_records.specs.declared.limits.Profile.{Profile}
use Rattle.tb_file_journal.specs.declared.faults.JournalFault.TheVariants.{NotEmpty}
use Rattle.tb_file_journal.specs.declared.opening.OpenFault.TheVariants as open_faults
use Rattle.tb_file_journal.specs.Device.{Disk, IsOnDisk, IsCause, FailsNone, LeavesOnly}
use Rattle.tb_file_journal.specs.Contents.{Records, contents, recorded}
use Rattle.tb_file_journal.specs.Reading.{extent_of}
use Rattle.tb_file_journal.specs.Ready.{Kept, IsReady, IsOver}
use Rattle.tb_file.specs.declared.faults.StartFault.{StartFault}
use Rattle.tb_file.specs.declared.faults.StartFault.TheVariants as start
use Rattle.tb_file.specs.declared.creating.NotKept.{NotKept}
use Rattle.tb_file.specs.Keeping.{head_record, Keeping, IsFresh, IsUsable}
use Rattle.tb_file.specs.Creating.{HasNoEntry, OpensFile}
use Rattle.tb_file.specs.Recovering.{IsRestoredFrom}
use Rattle.tb_file.specs.declared.recovering.Rules.{Rules}
use Rattle.tb_machine.specs.Histories.{State}
use Rattle.tb_file_journal.specs.declared.reading.Extent.{Extent}

-- the journal's device, or the one that is returned
abbrev pub journal_left : {D : Type 0} → Result (Kept D) (NotKept D) → D
journal_left (Ok journal) = journal.device
journal_left (Err failed) = failed.device

-- a call on the device failed, or there is no memory
abbrev pub IsOfFailedDevice : StartFault → Type 0
IsOfFailedDevice (start.Journal (open_faults.Device NotEmpty)) = ⊥
IsOfFailedDevice (start.Journal (open_faults.Device fault)) = Unit {0}
IsOfFailedDevice fault = ⊥

-- the same, and its cause
abbrev pub IsDeviceCause : Disk → Disk → StartFault → Type 0
IsDeviceCause before after (start.Journal (open_faults.Device NotEmpty)) = ⊥
IsDeviceCause before after (start.Journal (open_faults.Device fault)) = IsCause before after fault
IsDeviceCause before after fault = ⊥

pub record HasDeviceCause {T : Type 0} (result : Result T StartFault) (before after : Disk) : Type 0 where
  pub ok : OnOk result (FailsNone before after)
  pub cause : IfErr result (IsDeviceCause before after)

-- records, or a head if there are no records
abbrev pub with_head : Profile → ℕ → List (List ℕ) → List (List ℕ)
with_head profile clients_max [] = head_record profile clients_max ∷ []
with_head profile clients_max (head ∷ records) = head ∷ records

module _ {D : Type 0} (disk : D → Disk) (rules : Rules) where
  -- a journal with these records, or with a head if there are no records
  pub record HasRecords (records : List (List ℕ)) (journal : Kept D) : Type 0 where
    pub ready : IsReady disk journal
    pub none_waits : journal.waiting ≡ []
    pub reads : recorded (disk journal.device).seen ≡ with_head rules.profile rules.clients_max records

  -- a journal with a head and nothing after it
  abbrev pub HasHead : Kept D → Type 0
  HasHead = HasRecords []

-- what a crash may leave while such a journal is opened
abbrev pub OpensOnly : Profile → ℕ → Disk → List ℕ → Type 0
OpensOnly profile clients_max before file =
    (contents file ≡ Records (recorded before.seen)) ⊎ ((recorded before.seen ≡ []) × HasNoEntry profile clients_max file)

-- a journal that may be written to, without records, and nothing waits
abbrev pub IsEmpty : {D : Type 0} → (D → Disk) → Kept D → Type 0
IsEmpty disk journal = IsOver disk [] journal × (journal.waiting ≡ [])

-- a file was read to this extent; if no sync has failed before, what was read is durable
abbrev pub WasRead : {D : Type 0} → (D → Disk) → D → Extent → Type 0
WasRead disk device extent = ((disk device).sound ≡ true → IsOnDisk (disk device)) × (extent_of (contents (disk device).seen) ≡ Ok extent)

-- the machine was restored from a file of these rules, whose records end there; if no sync has failed before, what was read is durable
abbrev pub WasRestored : {D : Type 0} → (D → Disk) → Rules → D → State → Extent → Type 0
WasRestored disk rules device S extent = ((disk device).sound ≡ true → IsOnDisk (disk device)) × IsRestoredFrom rules.profile rules.clients_max (disk device).seen S extent

-- the keeper may serve: no call of it has failed, and if no sync has, its journal is ready
abbrev pub KeeperMayServe : {D : Type 0} → Type 0 → (D → Disk) → D → Result (Keeping D) (NotKept D) → Type 0
KeeperMayServe tells disk device result = IfOk result IsUsable × (tells → (disk device).sound ≡ true → IfOk result (IsFresh disk))

-- a keeper with this machine, which has cut off `cut` torn bytes
abbrev pub IsOf : {D : Type 0} → State → ℕ → Keeping D → Type 0
IsOf S cut keeper = (keeper.state ≡ S) × (keeper.cut ≡ cut)

-- a file from which this machine was restored is opened by it, or it is reported why not
abbrev pub OpensRestored : {D : Type 0} → Result (Keeping D) (NotKept D) → Rules → State → Extent → List ℕ → Type 0
OpensRestored result rules S extent file =
    IsRestoredFrom rules.profile rules.clients_max file S extent → OpensFile result rules.profile rules.clients_max file

-- while a head is written to a journal that is ready, a crash at any moment leaves no record, or this head and nothing after it
abbrev pub HeadLeaves : {D : Type 0} → (D → Disk) → Rules → Kept D → D → Type 0
HeadLeaves disk rules journal after =
    IsReady disk journal → LeavesOnly (disk journal.device) (disk after) (HasNoEntry rules.profile rules.clients_max)

-- The steps by which records are copied: only for private functions.
use Rattle.std.specs.Prelude.{ℕ, Bool, true, false, ◌≡◌, ◌≤◌, ◌^◌, List, [], ◌∷◌, ◌++◌, Option, None, Some, Result, Ok, Err, IfErr}
use Rattle.tb_file_journal.specs.declared.faults.JournalFault.{JournalFault}
use Rattle.tb_file_journal.specs.declared.opening.OpenFault.TheVariants as open_faults
use Rattle.tb_file_journal.specs.declared.reading.Extent.{Extent}
use Rattle.tb_file_journal.specs.Device.{Disk}
use Rattle.tb_file_journal.specs.Contents.{Records, contents}
use Rattle.tb_file_journal.specs.Scans.{HasRead, ScanState}
use Rattle.tb_machine.specs.Histories.{State}
use Rattle.tb_file.specs.declared.faults.SalvageFault.{SalvageFault}
use Rattle.tb_file.specs.declared.faults.SalvageFault.TheVariants.{Old, New}
use Rattle.tb_file.specs.declared.faults.StartFault.{StartFault}
use Rattle.tb_file.specs.declared.faults.StartFault.TheVariants as start
use Rattle.tb_file.specs.declared.recovering.Rules.{Rules}
use Rattle.tb_file.specs.Keeping.{Keeping}
use Rattle.tb_file.specs.Recovering.{RecordsLead, AppliesRecord, IsTornTooLong, torn_bytes}
use Rattle.tb_file.specs.Salvaging.{StopsBehind, IsUnsalvaged, old_part, new_part}
use Rattle.tb_file.specs.private.Entering.{head_of}
use Rattle.tb_file.specs.RecordSteps.{OfExtent, HoldsRead, Queues, FailsWriting}

-- the fault of a step, as one of the file that is read
abbrev pub of_old : {T : Type 0} → Result T SalvageFault → Result (Unit {0}) StartFault
of_old (Ok value) = Ok tt
of_old (Err fault) = old_part fault

abbrev pub of_new : {T : Type 0} → Result T SalvageFault → Result (Unit {0}) StartFault
of_new (Ok value) = Ok tt
of_new (Err fault) = new_part fault

-- a fault of the new file's device
abbrev pub by_device : JournalFault → SalvageFault
by_device fault = New (start.Journal (open_faults.Device fault))

abbrev pub HeadRead : (List ℕ → Type 0) → Rules → ScanState → List ℕ → Type 0
HeadRead holds rules scan file = HoldsRead holds (head_of rules) scan file

abbrev pub Unread : (List ℕ → Type 0) → ScanState → List ℕ → Type 0
Unread holds scan file = HoldsRead holds [] scan file

-- the fault, if every start refuses the old file for it: it is damaged or no journal, or a record is not that of the next entry
abbrev pub stop_of : SalvageFault → Option StartFault
stop_of (Old (start.Journal (open_faults.Refused why))) = Some (start.Journal (open_faults.Refused why))
stop_of (Old (start.Record place fault)) = Some (start.Record place fault)
stop_of (Old (start.Entry fault)) = Some (start.Entry fault)
stop_of fault = None

-- why the reading stops after records, by which a machine was led to a state
abbrev pub StopsAfter : StartFault → List (List ℕ) → State → List ℕ → Type 0
StopsAfter (start.Journal (open_faults.Device fault)) records S file = Unit {0}
StopsAfter start.NoMemory records S file = Unit {0}
StopsAfter (start.TornTooLong at bytes) records S file = ⊥
StopsAfter fault records S file = StopsBehind (Some fault) records S file

-- if a file has no rules nothing is copied from it
abbrev pub IsNotTaken : {T : Type 0} → Result T StartFault → List ℕ → Type 0
IsNotTaken result file = IfErr result (λ fault. IsUnsalvaged (Old fault) file)

-- a fault of the old file's device
abbrev pub IsOldDevice : SalvageFault → Type 0
IsOldDevice (Old (start.Journal (open_faults.Device fault))) = Unit {0}
IsOldDevice fault = ⊥

-- a start refuses a file that is read to its end only for its torn bytes
abbrev pub IsTornStop : List ℕ → Option StartFault → Type 0
IsTornStop file None = torn_bytes file ≤ 2 ^ 22
IsTornStop file (Some (start.TornTooLong at bytes)) = IsTornTooLong at bytes file
IsTornStop file stop = ⊥

-- why no more is copied: at the file's end, its torn bytes; otherwise the fault, if it is the file's own
abbrev pub StopsBy : Result (Option StartFault) SalvageFault → Result (Unit {0}) SalvageFault → (List ℕ → Type 0) → Extent → Type 0
StopsBy (Ok stop) (Ok done) holds extent = OfExtent holds extent (λ file. IsTornStop file stop)
StopsBy (Err fault) (Ok done) holds extent = IsOldDevice fault
StopsBy (Ok None) (Err fault) holds extent = ⊥
StopsBy (Ok (Some stop)) (Err fault) holds extent = stop_of fault ≡ Some stop
StopsBy (Err other) (Err fault) holds extent = (other ≡ fault) × (stop_of fault ≡ None)

-- while a keeper copies records two things stay: whether a call has failed, and what a start cut off
abbrev pub StaysUsed : {N : Type 0} → Keeping N → Keeping N → Type 0
StaysUsed before after = (after.usable ≡ before.usable) × (after.cut ≡ before.cut)

module _ {N : Type 0} (disk : N → Disk) where
  module _ (tells : Type 0) where
    -- or the record is not that of the next entry, and all is as it was
    abbrev pub TakesRecord : Result (Unit {0}) SalvageFault → List ℕ → Keeping N → Keeping N → Type 0
    TakesRecord (Ok done) bytes before after =
        AppliesRecord (Ok tt) before.state bytes after.state × (after.journal.usable ≡ true) × (tells → Queues disk (bytes ∷ []) before.journal after.journal)
    TakesRecord (Err (Old fault)) bytes before after = AppliesRecord (Err fault) before.state bytes after.state × (after.journal ≡ before.journal)
    TakesRecord (Err (New fault)) bytes before after =
        (f : JournalFault) × (fault ≡ start.Journal (open_faults.Device f)) × (tells → FailsWriting disk f [] before.journal after.journal)

    -- what waited was committed
    abbrev pub CommitsTaken : Result (Unit {0}) SalvageFault → Keeping N → Keeping N → Type 0
    CommitsTaken (Ok done) before after =
        (after.state ≡ before.state) × (after.journal.usable ≡ true) × (after.journal.waiting ≡ []) × (tells → Queues disk [] before.journal after.journal)
    CommitsTaken (Err fault) before after = (f : JournalFault) × (fault ≡ by_device f) × (tells → FailsWriting disk f [] before.journal after.journal)

    -- no more is written, or the new file is the reason
    abbrev pub IsUntaken : SalvageFault → Keeping N → Keeping N → Type 0
    IsUntaken (Old fault) before after = after.journal ≡ before.journal
    IsUntaken (New fault) before after = (f : JournalFault) × (fault ≡ start.Journal (open_faults.Device f)) × (tells → FailsWriting disk f [] before.journal after.journal)

    module _ (holds : List ℕ → Type 0) where
      -- these records were copied, from the first place of a scan to the one where it is now
      pub record Taken (records : List (List ℕ)) (first here : ScanState) (before after : Keeping N) : Type 0 where
        pub leads : RecordsLead before.state records after.state
        pub usable : after.journal.usable ≡ true
        pub queues : tells → Queues disk records before.journal after.journal
        pub read : (file : List ℕ) (read : List (List ℕ)) → holds file → HasRead read file first → HasRead (read ++ records) file here

      -- no more were copied after that place: the file ends there; or it is the reason, or its device or memory, and all is as it was; or the new
      -- file is the reason
      abbrev pub EndsTaking : Result (Unit {0}) SalvageFault → ScanState → Keeping N → Keeping N → Type 0
      EndsTaking (Ok done) here before after =
          (after ≡ before) × ((file : List ℕ) (read : List (List ℕ)) → holds file → HasRead read file here → contents file ≡ Records read)
      EndsTaking (Err (Old fault)) here before after =
          (after.state ≡ before.state) × (after.journal ≡ before.journal)
          × ((file : List ℕ) (read : List (List ℕ)) → holds file → HasRead read file here → StopsAfter fault read before.state file)
      EndsTaking (Err (New fault)) here before after =
          (f : JournalFault) × (fault ≡ start.Journal (open_faults.Device f)) × (tells → FailsWriting disk f [] before.journal after.journal)

      abbrev pub TakesNext : Result Bool SalvageFault → ScanState → ScanState → Keeping N → Keeping N → Type 0
      TakesNext (Ok true) first last before after = (bytes : List ℕ) × Taken (bytes ∷ []) first last before after
      TakesNext (Ok false) first last before after = EndsTaking (Ok tt) first before after
      TakesNext (Err fault) first last before after = EndsTaking (Err fault) first before after

      -- all records up to a place were copied, and no more
      pub record TakesAll (extent : Extent) (result : Result (Unit {0}) SalvageFault) (first : ScanState) (before after : Keeping N) : Type 0 where
        pub records : List (List ℕ)
        pub here : ScanState
        pub middle : Keeping N
        pub taken : Taken records first here before middle
        pub end : extent.end ≡ here.end
        pub count : extent.count ≡ here.count
        pub ends : EndsTaking result here middle after

      -- and they were committed; or not, because the old file is not read on for a reason that is not its own, or the new one was not written
      abbrev pub TakesRest : Result (Extent × Option StartFault) SalvageFault → ScanState → Keeping N → Keeping N → Type 0
      TakesRest (Ok found) first before after =
          (records : List (List ℕ)) × (here : ScanState) × Taken records first here before after × (after.journal.waiting ≡ []) × (found.0.end ≡ here.end)
          × ((file : List ℕ) (read : List (List ℕ)) → holds file → HasRead read file first → StopsBehind found.1 (read ++ records) after.state file)
      TakesRest (Err fault) first before after =
          (records : List (List ℕ)) × (here : ScanState) × (middle : Keeping N) × Taken records first here before middle
          × IsUntaken fault middle after
          × ((file : List ℕ) (read : List (List ℕ)) → holds file → HasRead read file first → IsUnsalvaged fault file)

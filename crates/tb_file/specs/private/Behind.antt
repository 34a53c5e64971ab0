-- The steps by which records after damage are copied: only for private functions.
use Rattle.std.specs.Prelude.{ℕ, Bool, true, false, ◌≡◌, List, length, Result, Ok, Err}
use Rattle.tb_file_journal.specs.Device.{Disk}
use Rattle.tb_file_journal.specs.Seeking.{SeekState, IsSeeking, StandsAt}
use Rattle.tb_file.specs.declared.faults.SalvageFault.{SalvageFault}
use Rattle.tb_file.specs.Keeping.{Keeping}
use Rattle.tb_file.specs.Recovering.{RecordsLead}
use Rattle.tb_file.specs.ReadingOn.{StandBetween}
use Rattle.tb_file.specs.private.Taking.{IsUntaken, TakesRecord}
use Rattle.tb_file.specs.RecordSteps.{Queues}

module _ {N : Type 0} (disk : N → Disk) (tells : Type 0) where
  -- a record was copied; or it is not that of the next entry, and all is as it was; or nothing more is written
  abbrev pub TakesIf : Result Bool SalvageFault → List ℕ → Keeping N → Keeping N → Type 0
  TakesIf (Ok true) bytes before after = TakesRecord disk tells (Ok tt) bytes before after
  TakesIf (Ok false) bytes before after = (after.state ≡ before.state) × (after.journal ≡ before.journal)
  TakesIf (Err fault) bytes before after = IsUntaken disk tells fault before after

  module _ (holds : List ℕ → Type 0) where
    -- the same for a record at the place of a seek
    abbrev pub TakesHere : Result Bool SalvageFault → SeekState → SeekState → ℕ → Keeping N → Keeping N → Type 0
    TakesHere (Ok true) first here len before after =
        (bytes : List ℕ) × (length bytes ≡ len) × TakesRecord disk tells (Ok tt) bytes before after × (here.at ≡ first.at)
        × ((file : List ℕ) → holds file → IsSeeking file first → StandsAt first.at bytes file × IsSeeking file here)
    TakesHere (Ok false) first here len before after =
        (after.state ≡ before.state) × (after.journal ≡ before.journal) × (here.at ≡ first.at)
        × ((file : List ℕ) → holds file → IsSeeking file first → IsSeeking file here)
    TakesHere (Err fault) first here len before after = IsUntaken disk tells fault before after

    -- these records were copied, from the first place of a seek to the one where it is now
    pub record TakenOn (records : List (List ℕ)) (first here : SeekState) (before after : Keeping N) : Type 0 where
      pub leads : RecordsLead before.state records after.state
      pub usable : after.journal.usable ≡ true
      pub queues : tells → Queues disk records before.journal after.journal
      pub stand : (file : List ℕ) → holds file → IsSeeking file first → StandBetween first.at records here.at file × IsSeeking file here

    -- some records were copied, or no record; at a fault those before it
    abbrev pub TakesOn : {T : Type 0} → Result T SalvageFault → SeekState → SeekState → Keeping N → Keeping N → Type 0
    TakesOn (Ok value) first here before after = (records : List (List ℕ)) × TakenOn records first here before after
    TakesOn (Err fault) first here before after =
        (records : List (List ℕ)) × (middle : Keeping N) × (place : SeekState) × TakenOn records first place before middle × IsUntaken disk tells fault middle after

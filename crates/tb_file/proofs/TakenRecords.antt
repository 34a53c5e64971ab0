-- What is copied from all records after a place.
use Rattle.std.proofs.Common.{ℕ, ◌≡◌, true, List, [], ◌++◌, Option, None, Some, Result, Ok, Err, IfOk, IfErr, OnOk, OnErr, refl, sym, ap, ◌∙◌, subst, append-nil}
use Rattle.tb_file_journal.specs.declared.opening.OpenFault.TheVariants as open_faults
use Rattle.tb_file_journal.specs.declared.reading.Extent.{Extent}
use Rattle.tb_file_journal.specs.Device.{Disk, FailsNone}
use Rattle.tb_file_journal.specs.Contents.{Records, contents}
use Rattle.tb_file_journal.specs.Ready.{Kept, IsReady}
use Rattle.tb_file_journal.specs.Reading.{extent_of}
use Rattle.tb_file_journal.specs.Scans.{ScanState}
use Rattle.tb_file_journal.proofs.Causes.{none_since}
use Rattle.tb_machine.specs.Histories.{State}
use Rattle.tb_file.specs.declared.faults.SalvageFault.{SalvageFault}
use Rattle.tb_file.specs.declared.faults.SalvageFault.TheVariants.{Old, New}
use Rattle.tb_file.specs.declared.faults.StartFault.{StartFault}
use Rattle.tb_file.specs.declared.faults.StartFault.TheVariants as start
use Rattle.tb_file.specs.Keeping.{Keeping}
use Rattle.tb_file.specs.Recovering.{RecordsLead, HasStartCause, IsStartCause}
use Rattle.tb_file.specs.Salvaging.{StopsBehind, IsUnsalvaged, old_part}
use Rattle.tb_file.specs.private.Taking.{stop_of, of_old, StopsAfter, StopsBy, IsTornStop, IsOldDevice, Taken, TakesAll, CommitsTaken, TakesRest}
use Rattle.tb_file.specs.RecordSteps.{FailsWriting, Queues}
use Rattle.tb_file.proofs.Causes.{has_start_then}
use Rattle.tb_file.proofs.Entered.{extent_found}
use Rattle.tb_file.proofs.Taking.{queues_then}

-- torn bytes

pub stops_torn : (done : Unit {0}) (result : Result (Option StartFault) SalvageFault) (holds : List ℕ → Type 0) (extent : Extent)
    → ((file : List ℕ) → holds file → extent_of (contents file) ≡ Ok extent → IfOk result (IsTornStop file)) → IfErr result IsOldDevice
    → StopsBy result (Ok done) holds extent
stops_torn done (Ok stop) holds extent torn device = torn
stops_torn done (Err fault) holds extent torn device = device

torn_behind : (stop : Option StartFault) (records : List (List ℕ)) (S : State) (file : List ℕ) → contents file ≡ Records records → IsTornStop file stop → StopsBehind stop records S file
torn_behind None records S file reads torn = (reads, torn)
torn_behind (Some (start.TornTooLong at bytes)) records S file reads torn = (reads, torn)
torn_behind (Some (start.Journal f)) records S file reads torn = absurd torn
torn_behind (Some start.Head) records S file reads torn = absurd torn
torn_behind (Some start.OtherRules) records S file reads torn = absurd torn
torn_behind (Some (start.Record place f)) records S file reads torn = absurd torn
torn_behind (Some (start.Entry f)) records S file reads torn = absurd torn
torn_behind (Some start.NoMemory) records S file reads torn = absurd torn

-- a fault that is the file's own

own_behind : (fault stop : StartFault) (records : List (List ℕ)) (S : State) (file : List ℕ) → stop_of (Old fault) ≡ Some stop → StopsAfter fault records S file → StopsBehind (Some stop) records S file
own_behind (start.Journal (open_faults.Refused why)) stop records S file is stops =
    let same : start.Journal (open_faults.Refused why) ≡ stop = cc in subst (λ (f : StartFault). StopsBehind (Some f) records S file) same stops
own_behind (start.Record place f) stop records S file is stops =
    let same : start.Record place f ≡ stop = cc in subst (λ (g : StartFault). StopsBehind (Some g) records S file) same stops
own_behind (start.Entry f) stop records S file is stops =
    let same : start.Entry f ≡ stop = cc in subst (λ (g : StartFault). StopsBehind (Some g) records S file) same stops
own_behind (start.Journal (open_faults.Device f)) stop records S file is stops = absurd (cc)
own_behind start.Head stop records S file is stops = absurd (cc)
own_behind start.OtherRules stop records S file is stops = absurd (cc)
own_behind start.NoMemory stop records S file is stops = absurd (cc)
own_behind (start.TornTooLong at bytes) stop records S file is stops = absurd (cc)

other_behind : (fault : StartFault) (records : List (List ℕ)) (S : State) (file : List ℕ) → stop_of (Old fault) ≡ None → StopsAfter fault records S file → IsUnsalvaged (Old fault) file
other_behind (start.Journal (open_faults.Device f)) records S file is stops = tt
other_behind start.NoMemory records S file is stops = tt
other_behind (start.Journal (open_faults.Refused why)) records S file is stops = absurd (cc)
other_behind (start.Record place f) records S file is stops = absurd (cc)
other_behind (start.Entry f) records S file is stops = absurd (cc)
other_behind start.Head records S file is stops = absurd stops
other_behind start.OtherRules records S file is stops = absurd stops
other_behind (start.TornTooLong at bytes) records S file is stops = absurd stops

-- the cause, if it is the file's own

own_none : (before after : Disk) (fault stop : StartFault) → stop_of (Old fault) ≡ Some stop → IsStartCause before after fault → FailsNone before after
own_none before after (start.Journal (open_faults.Refused why)) stop is cause = cause.1
own_none before after (start.Record place f) stop is cause = cause
own_none before after (start.Entry f) stop is cause = cause
own_none before after (start.Journal (open_faults.Device f)) stop is cause = absurd (cc)
own_none before after start.Head stop is cause = cause
own_none before after start.OtherRules stop is cause = cause
own_none before after start.NoMemory stop is cause = cause
own_none before after (start.TornTooLong at bytes) stop is cause = cause

module _ {N : Type 0} (disk : N → Disk) (tells : Type 0) (holds later : List ℕ → Type 0) (same : (file : List ℕ) → holds file → later file) (extent : Extent) (first : ScanState) (before mid : Keeping N) where
  committed : (records : List (List ℕ)) (here : ScanState) (middle after : Keeping N) → Taken disk tells holds records first here before middle → mid.state ≡ middle.state → mid.journal ≡ middle.journal
      → CommitsTaken disk tells (Ok tt) mid after → Taken disk tells holds records first here before after
  committed records here middle after taken state journal commits = record {
    leads = subst (λ (S : State). RecordsLead before.state records S) (sym (commits.0 ∙ state)) taken.leads;
    usable = commits.1;
    queues = λ t.
        let more : Queues disk [] middle.journal after.journal = subst (λ (j : Kept N). Queues disk [] j after.journal) journal (commits.3 t) in
        subst (λ (r : List (List ℕ)). Queues disk r before.journal after.journal) (append-nil records)
        (queues_then disk before.journal middle.journal after.journal records [] (taken.queues t) more);
    read = taken.read;
  }

  pub behind_done : (taken : Result (Unit {0}) SalvageFault) (stop : Option StartFault) (after : Keeping N) → TakesAll disk tells holds extent taken first before mid → StopsBy (Ok stop) taken later extent
      → CommitsTaken disk tells (Ok tt) mid after → TakesRest disk tells holds (Ok (extent, stop)) first before after
  behind_done (Ok done) stop after all by commits =
      let is = all.ends.0 in (
        all.records,
        all.here,
        committed all.records all.here all.middle after all.taken (ap (λ (k : Keeping N). k.state) is) (ap (λ (k : Keeping N). k.journal) is) commits,
        commits.2,
        all.end,
        λ file read of has.
            let at = all.taken.read file read of has in
            let reads = all.ends.1 file (read ++ all.records) of at in
            torn_behind stop (read ++ all.records) after.state file reads (by file (same file of) (extent_found file (read ++ all.records) all.here extent reads at all.end all.count)),
      )
  behind_done (Err (Old fault)) None after all by commits = absurd by
  behind_done (Err (Old fault)) (Some stop) after all by commits = (
    all.records,
    all.here,
    committed all.records all.here all.middle after all.taken all.ends.0 all.ends.1 commits,
    commits.2,
    all.end,
    λ file read of has.
        subst (λ (S : State). StopsBehind (Some stop) (read ++ all.records) S file) (sym (commits.0 ∙ all.ends.0))
        (own_behind fault stop (read ++ all.records) all.middle.state file by (all.ends.2 file (read ++ all.records) of (all.taken.read file read of has))),
  )
  behind_done (Err (New fault)) None after all by commits = absurd by
  behind_done (Err (New fault)) (Some stop) after all by commits = absurd (cc)

  -- the commit failed
  journal_at : (taken : Result (Unit {0}) SalvageFault) (stop : Option StartFault) (all : TakesAll disk tells holds extent taken first before mid) → StopsBy (Ok stop) taken later extent → mid.journal ≡ all.middle.journal
  journal_at (Ok done) stop all by = ap (λ (k : Keeping N). k.journal) all.ends.0
  journal_at (Err (Old fault)) stop all by = all.ends.1
  journal_at (Err (New fault)) None all by = absurd by
  journal_at (Err (New fault)) (Some stop) all by = absurd (cc)

  pub usable_at : (taken : Result (Unit {0}) SalvageFault) (stop : Option StartFault) → TakesAll disk tells holds extent taken first before mid → StopsBy (Ok stop) taken later extent → mid.journal.usable ≡ true
  usable_at taken stop all by = ap (λ (j : Kept N). j.usable) (journal_at taken stop all by) ∙ all.taken.usable

  pub ready_at : (taken : Result (Unit {0}) SalvageFault) (stop : Option StartFault) → TakesAll disk tells holds extent taken first before mid → StopsBy (Ok stop) taken later extent
      → tells → IsReady disk mid.journal
  ready_at taken stop all by t = subst (λ (j : Kept N). IsReady disk j) (sym (journal_at taken stop all by)) (all.taken.queues t).ready

  pub behind_uncommitted : (taken : Result (Unit {0}) SalvageFault) (stop : Option StartFault) (fault : SalvageFault) (after : Keeping N) → TakesAll disk tells holds extent taken first before mid
      → StopsBy (Ok stop) taken later extent → CommitsTaken disk tells (Err fault) mid after → TakesRest disk tells holds (Err fault) first before after
  behind_uncommitted taken stop fault after all by (f, named, breaks) =
      let same_journal = journal_at taken stop all by in
      subst (λ (g : SalvageFault). TakesRest disk tells holds (Err g) first before after) (sym named) (
        all.records,
        all.here,
        all.middle,
        all.taken,
        (f, refl, λ t. subst (λ (j : Kept N). FailsWriting disk f [] j after.journal) same_journal (breaks t)),
        λ file read of has. tt,
      )

  -- the old file is not read on, or the new one was not written to
  pub behind_not : (taken : Result (Unit {0}) SalvageFault) (fault : SalvageFault) → TakesAll disk tells holds extent taken first before mid → StopsBy (Err fault) taken later extent
      → TakesRest disk tells holds (Err fault) first before mid
  behind_not (Ok done) (Old (start.Journal (open_faults.Device f))) all by =
      (all.records, all.here, all.middle, all.taken, ap (λ (k : Keeping N). k.journal) all.ends.0, λ file read of has. tt)
  behind_not (Ok done) (Old (start.Journal (open_faults.Refused why))) all by = absurd by
  behind_not (Ok done) (Old start.Head) all by = absurd by
  behind_not (Ok done) (Old start.OtherRules) all by = absurd by
  behind_not (Ok done) (Old (start.Record place f)) all by = absurd by
  behind_not (Ok done) (Old (start.Entry f)) all by = absurd by
  behind_not (Ok done) (Old start.NoMemory) all by = absurd by
  behind_not (Ok done) (Old (start.TornTooLong at bytes)) all by = absurd by
  behind_not (Ok done) (New f) all by = absurd by
  behind_not (Err (Old other)) fault all by =
      subst (λ (g : SalvageFault). TakesRest disk tells holds (Err g) first before mid) (sym by.0) (
        all.records,
        all.here,
        all.middle,
        all.taken,
        all.ends.1,
        λ file read of has.
            other_behind other (read ++ all.records) all.middle.state file by.1 (all.ends.2 file (read ++ all.records) of (all.taken.read file read of has)),
      )
  behind_not (Err (New other)) fault all by =
      subst (λ (g : SalvageFault). TakesRest disk tells holds (Err g) first before mid) (sym by.0)
      (all.records, all.here, all.middle, all.taken, all.ends, λ file read of has. tt)

-- and the cause, by the old file's device before, after the records, and after the call for its length

module _ {D : Type 0} (disk : D → Disk) (old mid last : D) (seen : (disk mid).seen ≡ (disk old).seen) (later : List ℕ → Type 0) (extent : Extent) where
  pub none_behind : (taken : Result (Unit {0}) SalvageFault) (stop : Option StartFault) → HasStartCause (of_old taken) (disk old) (disk mid) → StopsBy (Ok stop) taken later extent
      → OnOk taken (HasStartCause {T = Unit {0}} (Ok tt) (disk mid) (disk last)) → OnErr taken (last ≡ mid) → FailsNone (disk old) (disk last)
  none_behind (Ok done) stop cause by one same = none_since (disk old) (disk mid) (disk last) cause.ok one.ok
  none_behind (Err (Old fault)) None cause by one same = absurd by
  none_behind (Err (Old fault)) (Some stop) cause by one same =
      subst (λ (d : D). FailsNone (disk old) (disk d)) (sym same) (own_none (disk old) (disk mid) fault stop by cause.cause)
  none_behind (Err (New fault)) None cause by one same = absurd by
  none_behind (Err (New fault)) (Some stop) cause by one same = absurd (cc)

  pub cause_behind_not : (taken : Result (Unit {0}) SalvageFault) (fault : SalvageFault) → HasStartCause (of_old taken) (disk old) (disk mid) → StopsBy (Err fault) taken later extent
      → OnOk taken (HasStartCause (old_part fault) (disk mid) (disk last)) → OnErr taken (last ≡ mid) → HasStartCause (old_part fault) (disk old) (disk last)
  cause_behind_not (Ok done) fault cause by one same = has_start_then (disk old) (disk mid) (disk last) cause.ok seen (old_part fault) one
  cause_behind_not (Err other) fault cause by one same =
      subst (λ (f : SalvageFault). HasStartCause (old_part f) (disk old) (disk last)) (sym by.0)
      (subst (λ (d : D). HasStartCause (old_part other) (disk old) (disk d)) (sym same) cause)

pub cause_uncommitted : {N : Type 0} (disk : N → Disk) (tells : Type 0) (fault : SalvageFault) (before after : Keeping N) (old last : Disk) → CommitsTaken disk tells (Err fault) before after → FailsNone old last
    → HasStartCause (old_part fault) old last
cause_uncommitted disk tells fault before after old last (f, named, breaks) none =
    subst (λ (g : SalvageFault). HasStartCause (old_part g) old last) (sym named) (record { ok = none; cause = tt })

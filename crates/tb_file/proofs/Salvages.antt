-- What is copied into a new file.
use Rattle.std.proofs.Common.{arith, ℕ, ◌≡◌, ◌⊎◌, inl, inr, true, List, [], ◌∷◌, ◌++◌, map, Result, Ok, Err, IfOk, IfErr, Some, None, Option, refl, sym, ap, ◌∙◌, subst, append-nil}
use Rattle.std.proofs.lemmas.Grind.{common_steps}
use Rattle.tb_records.specs.declared.limits.Profile.{Profile}
use Rattle.tb_records.specs.DumpBytes.{IsClients}
use Rattle.tb_file_journal.specs.declared.faults.JournalFault.{JournalFault}
use Rattle.tb_file_journal.specs.declared.faults.JournalFault.TheVariants as faults
use Rattle.tb_file_journal.specs.declared.opening.OpenFault.{OpenFault}
use Rattle.tb_file_journal.specs.declared.opening.OpenFault.TheVariants as open_faults
use Rattle.tb_file_journal.specs.declared.reading.Extent.{Extent}
use Rattle.tb_file_journal.specs.declared.reading.Refusal.TheVariants as refusals
use Rattle.tb_file_journal.specs.Device.{Disk, LeavesOnly, FailsNone, IsOfCall, IsOfSync}
use Rattle.tb_file_journal.specs.Contents.{Records, contents, recorded, records_end}
use Rattle.tb_file_journal.specs.Creating.{is_blank}
use Rattle.tb_file_journal.specs.Ready.{Kept}
use Rattle.tb_file_journal.specs.Scans.{HasRead, ScanState, BeginsWith, ReadsNextRecord, BeginsScan, IsAt, IsOfStart}
use Rattle.tb_file_journal.proofs.Causes.{none_since}
use Rattle.tb_file_journal.proofs.Moments.{started, then, weaker}
use Rattle.tb_file_journal.proofs.BlockWalks.{begins_shorter}
use Rattle.tb_machine.specs.Dumps.{dumped}
use Rattle.tb_machine.specs.Histories.{State, start as start_state}
use Rattle.tb_file.specs.declared.faults.SalvageFault.{SalvageFault}
use Rattle.tb_file.specs.declared.faults.SalvageFault.TheVariants.{Old, New}
use Rattle.tb_file.specs.declared.faults.StartFault.{StartFault}
use Rattle.tb_file.specs.declared.faults.StartFault.TheVariants as start
use Rattle.tb_file.specs.declared.recovering.Rules.{Rules}
use Rattle.tb_file.specs.declared.salvaging.NotSalvaged.{NotSalvaged}
use Rattle.tb_file.specs.declared.salvaging.Salvaged.{Salvaged}
use Rattle.tb_file.specs.Keeping.{History, history_state, records_of, head_record, Keeping, Keeps, IsKeepable, IsLedger}
use Rattle.tb_file.specs.Creating.{history_of, LedgerMayBeCreated, IsCreateRefused, IsCreateStartCause}
use Rattle.tb_file.specs.Recovering.{RecordsLead, StopsAt, StopsBeginning, StopsFile, IsNotOfFile, IsStartCause}
use Rattle.tb_file.specs.Salvaging.{StopsBehind, IsHistoryTaken, IsSalvaged, IsBackedUp, IsUnsalvaged, IsNotBackedUp, IsWriteCause, IsNewCause, HasNewCause, MayBeSalvaged, IsLeftAlone}
use Rattle.tb_file.specs.private.Taking.{Taken, TakesRest, of_new}
use Rattle.tb_file.specs.RecordSteps.{HoldsRead, IsBetween, all_records}
use Rattle.tb_file.specs.Reading.{HasRules, RulesIn, rules_of}
use Rattle.tb_file.proofs.Entered.{Latest}
use Rattle.tb_file.proofs.Leading.{leads_none, stops_file}
use Rattle.tb_file.proofs.Taking.{leads_first, breaks_then, write_cause_since}

-- the history of records after a head

module _ (rules : Rules) (clients : IsClients rules.clients_max) where
  abbrev head : List ℕ
  head = head_record rules.profile rules.clients_max

  module _ (records : List (List ℕ)) (T : State) (leads : RecordsLead (start_state rules.profile rules.clients_max) records T) where
    abbrev pub told : History
    told = history_of rules.profile rules.clients_max leads.entries

    pub told_keepable : IsKeepable told
    told_keepable = record { clients = clients; legal = leads.legal; recorded_are = leads.recorded_are }

    pub told_spelled : head ∷ records ≡ records_of told
    told_spelled = ap (λ (r : List (List ℕ)). head ∷ r) leads.spelled

  tails : (xs ys : List (List ℕ)) → head ∷ xs ≡ head ∷ ys → xs ≡ ys
  tails xs ys is = cc

  -- a file of the head and some first records
  module _ (records : List (List ℕ)) (T : State) (leads : RecordsLead (start_state rules.profile rules.clients_max) records T)
      (holds : List ℕ → Type 0) (begins : (file : List ℕ) → holds file → BeginsWith (head ∷ records) file) where
    pub first_ledger : (c : List ℕ) → IsBetween (head ∷ []) (head ∷ records) c → (h : History) × IsLedger h c × ((file : List ℕ) → holds file → BeginsWith (records_of h) file)
    first_ledger c (some, rest, reads, is) =
        let parts : records ≡ some ++ rest = tails records (some ++ rest) is in
        let (U, first) = leads_first (start_state rules.profile rules.clients_max) T some rest (subst (λ (r : List (List ℕ)). RecordsLead (start_state rules.profile rules.clients_max) r T) parts leads) in
        let spelled = told_spelled some U first in (
          told some U first,
          record { reads = reads ∙ ap Records spelled; keepable = told_keepable some U first },
          λ file of.
              subst (λ (r : List (List ℕ)). BeginsWith r file) spelled
              (begins_shorter (head ∷ some) rest file (subst (λ (r : List (List ℕ)). BeginsWith (head ∷ r) file) parts (begins file of))),
        )

    -- while a new file is made, and then written to
    module _ (before mid after : Disk) (blank : is_blank before.seen ≡ true) where
      may_be_made : (c : List ℕ) → LedgerMayBeCreated rules.profile rules.clients_max before c → MayBeSalvaged holds before c
      may_be_made c (inl was) = inl was
      may_be_made c (inr (is, inl unborn)) = inr (is, inl unborn)
      may_be_made c (inr (is, inr (inl none))) = inr (is, inr (inl none))
      may_be_made c (inr (is, inr (inr alone))) = inr (is, inr (inr (first_ledger c ([], records, alone, refl))))

      pub moments_of_all : LeavesOnly before mid (LedgerMayBeCreated rules.profile rules.clients_max before) → LeavesOnly mid after (IsBetween (head ∷ []) (head ∷ records))
          → LeavesOnly before after (MayBeSalvaged holds before)
      moments_of_all first second =
          then before mid after (MayBeSalvaged holds before)
          (weaker before mid (LedgerMayBeCreated rules.profile rules.clients_max before) (MayBeSalvaged holds before) may_be_made first)
          (weaker mid after (IsBetween (head ∷ []) (head ∷ records)) (MayBeSalvaged holds before) (λ c is. inr (blank, inr (inr (first_ledger c is)))) second)

-- if no file is made

pub moments_of_none : (profile : Profile) (clients_max : ℕ) (holds : List ℕ → Type 0) (before after : Disk) → LeavesOnly before after (LedgerMayBeCreated profile clients_max before)
    → ((c : List ℕ) → contents c ≡ Records (head_record profile clients_max ∷ []) → (h : History) × IsLedger h c × ((file : List ℕ) → holds file → BeginsWith (records_of h) file))
    → LeavesOnly before after (MayBeSalvaged holds before)
moments_of_none profile clients_max holds before after leaves ledger = weaker before after (LedgerMayBeCreated profile clients_max before) (MayBeSalvaged holds before) by leaves
  where
    by : (c : List ℕ) → LedgerMayBeCreated profile clients_max before c → MayBeSalvaged holds before c
    by c (inl was) = inl was
    by c (inr (is, inl unborn)) = inr (is, inl unborn)
    by c (inr (is, inr (inl none))) = inr (is, inr (inl none))
    by c (inr (is, inr (inr alone))) = inr (is, inr (inr (ledger c alone)))

-- by another file that the reads are of

module _ (holds less : List ℕ → Type 0) (so : (file : List ℕ) → less file → holds file) where
  pub salvaged_of : (tells : Type 0) {N : Type 0} (disk : N → Disk) (s : Salvaged N) → IsSalvaged tells disk holds s → IsSalvaged tells disk less s
  salvaged_of tells {N} disk s is = record { history = is.history; keeper = is.keeper; taken = λ file of. is.taken file (so file of) }

  pub ok_of : (tells : Type 0) {N : Type 0} (disk : N → Disk) (result : Result (Salvaged N) (NotSalvaged N)) → IfOk result (IsSalvaged tells disk holds) → IfOk result (IsSalvaged tells disk less)
  ok_of tells {N} disk (Ok s) is = salvaged_of tells disk s is
  ok_of tells {N} disk (Err failed) is = tt

  may_be_of : (before : Disk) (c : List ℕ) → MayBeSalvaged holds before c → MayBeSalvaged less before c
  may_be_of before c (inl was) = inl was
  may_be_of before c (inr (is, inl unborn)) = inr (is, inl unborn)
  may_be_of before c (inr (is, inr (inl none))) = inr (is, inr (inl none))
  may_be_of before c (inr (is, inr (inr (h, ledger, begins)))) = inr (is, inr (inr (h, ledger, λ file of. begins file (so file of))))

  pub moments_of : (before after : Disk) → LeavesOnly before after (MayBeSalvaged holds before) → LeavesOnly before after (MayBeSalvaged less before)
  moments_of before after leaves = weaker before after (MayBeSalvaged holds before) (MayBeSalvaged less before) (may_be_of before) leaves

-- faults of the new file

pub created_cause : (before after : Disk) (fault : StartFault) → IsNotOfFile fault → IsCreateStartCause before after fault → IsNewCause before after fault
created_cause before after (start.Journal (open_faults.Device f)) outside cause = inl cause
created_cause before after (start.Journal (open_faults.Refused why)) outside cause = absurd outside
created_cause before after start.NoMemory outside cause = cause
created_cause before after start.Head outside cause = absurd outside
created_cause before after start.OtherRules outside cause = absurd outside
created_cause before after (start.Record place f) outside cause = absurd outside
created_cause before after (start.Entry f) outside cause = absurd outside
created_cause before after (start.TornTooLong at bytes) outside cause = absurd outside

pub created_alone : (before after : Disk) (fault : StartFault) → IsCreateRefused fault before after → IsLeftAlone before after fault
created_alone before after (start.Journal (open_faults.Device faults.NotEmpty)) refused = refused.0
created_alone before after (start.Journal (open_faults.Device faults.Memory)) refused = tt
created_alone before after (start.Journal (open_faults.Device faults.Failed)) refused = tt
created_alone before after (start.Journal (open_faults.Device faults.Full)) refused = tt
created_alone before after (start.Journal (open_faults.Device faults.TooLong)) refused = tt
created_alone before after (start.Journal (open_faults.Device faults.SyncFailed)) refused = tt
created_alone before after (start.Journal (open_faults.Refused why)) refused = tt
created_alone before after start.Head refused = tt
created_alone before after start.OtherRules refused = tt
created_alone before after (start.Record place f) refused = tt
created_alone before after (start.Entry f) refused = tt
created_alone before after start.NoMemory refused = tt
created_alone before after (start.TornTooLong at bytes) refused = tt

never_empty : (before after : Disk) → IsWriteCause before after faults.NotEmpty → ⊥
never_empty before after (inl failed) = by failed.named
  where
    by : IsOfCall faults.NotEmpty ⊎ IsOfSync faults.NotEmpty → ⊥
    by named = grind (arith, common_steps)
never_empty before after (inr (own, none)) = own

pub written_alone : (before mid after : Disk) (f : JournalFault) → IsWriteCause mid after f → IsLeftAlone before after (start.Journal (open_faults.Device f))
written_alone before mid after faults.NotEmpty cause = absurd (never_empty mid after cause)
written_alone before mid after faults.Memory cause = tt
written_alone before mid after faults.Failed cause = tt
written_alone before mid after faults.Full cause = tt
written_alone before mid after faults.TooLong cause = tt
written_alone before mid after faults.SyncFailed cause = tt

-- a file from which nothing is taken

pub rules_unsalvaged : (result : Result Rules StartFault) (file head : List ℕ) (scan : ScanState) → HasRead (head ∷ []) file scan → RulesIn result head
    → IfErr result (λ fault. IsUnsalvaged (Old fault) file)
rules_unsalvaged (Ok rules) file head scan at found = tt
rules_unsalvaged (Err start.Head) file head scan at none = inr (head, [], at.begins, none)
rules_unsalvaged (Err (start.Journal fault)) file head scan at none = absurd none
rules_unsalvaged (Err start.OtherRules) file head scan at none = absurd none
rules_unsalvaged (Err (start.Record place fault)) file head scan at none = absurd none
rules_unsalvaged (Err (start.Entry fault)) file head scan at none = absurd none
rules_unsalvaged (Err start.NoMemory) file head scan at none = absurd none
rules_unsalvaged (Err (start.TornTooLong place bytes)) file head scan at none = absurd none

pub first_unsalvaged : (fault : OpenFault) (file : List ℕ) (old new : ScanState) → HasRead [] file old → IsAt old.end fault → ReadsNextRecord (Err fault) [] file new
    → IsUnsalvaged (Old (start.Journal fault)) file
first_unsalvaged (open_faults.Device f) file old new has place reads = tt
first_unsalvaged (open_faults.Refused (refusals.Damaged at)) file old new has place reads = (reads, place ∙ has.end)
first_unsalvaged (open_faults.Refused refusals.NotAJournal) file old new has place reads = absurd place

pub start_unsalvaged : (fault : OpenFault) (file : List ℕ) → BeginsScan (Err fault) file → IsOfStart fault → IsUnsalvaged (Old (start.Journal fault)) file
start_unsalvaged (open_faults.Device f) file starts refused = tt
start_unsalvaged (open_faults.Refused refusals.NotAJournal) file starts refused = starts
start_unsalvaged (open_faults.Refused (refusals.Damaged at)) file starts refused = absurd refused

pub none_made : (holds : List ℕ → Type 0) (disk : Disk) → Latest disk → LeavesOnly disk disk (MayBeSalvaged holds disk)
none_made holds disk now = started disk (MayBeSalvaged holds disk) (λ c left. inl (inl (now c left)))

-- a backup

pub whole_history : (h : History) (end : ℕ) (file : List ℕ) → IsKeepable h → IsHistoryTaken h end None file → IsLedger h file
whole_history h end file keepable taken = record { reads = taken.stops.0; keepable = keepable }

module _ (h : History) (keepable : IsKeepable h) (end : ℕ) (file : List ℕ) where
  leads : RecordsLead (start_state h.profile h.clients_max) (map dumped h.entries) (history_state h)
  leads = record { entries = h.entries; legal = keepable.legal; state = refl; recorded_are = keepable.recorded_are; spelled = refl }

  pub stops_longer_history : (fault : StartFault) (bytes : List ℕ) (more : List (List ℕ)) → StopsAt fault (history_state h) bytes → StopsFile fault h.profile h.clients_max (records_of h ++ bytes ∷ more)
  stops_longer_history fault bytes more stops =
      stops_file fault h.profile h.clients_max (records_of h ++ bytes ∷ more) (head_record h.profile h.clients_max) (map dumped h.entries ++ bytes ∷ more) refl
      (inr (refl, (history_state h, (map dumped h.entries, bytes, more, refl, leads, stops))))

  stopped : (fault : StartFault) (bytes : List ℕ) → BeginsWith (records_of h ++ bytes ∷ []) file → StopsAt fault (history_state h) bytes
      → (rules : Rules) × HasRules rules file × StopsBeginning fault rules.profile rules.clients_max file
  stopped fault bytes begins stops = (
    rules_of h.profile h.clients_max,
    begins_shorter (head_record h.profile h.clients_max ∷ []) (map dumped h.entries ++ bytes ∷ []) file begins,
    record {
      records = records_of h ++ bytes ∷ [];
      begins = begins;
      stops = stops_longer_history fault bytes [] stops;
    },
  )

  pub taken_not_whole : (fault : StartFault) → IsHistoryTaken h end (Some fault) file → IsNotBackedUp (Old fault) file
  taken_not_whole (start.TornTooLong at bytes) taken = taken.stops.1
  taken_not_whole (start.Journal (open_faults.Refused (refusals.Damaged at))) taken = taken.stops.0
  taken_not_whole (start.Journal (open_faults.Refused refusals.NotAJournal)) taken = absurd taken.stops
  taken_not_whole (start.Journal (open_faults.Device f)) taken = absurd taken.stops
  taken_not_whole (start.Record place f) taken = let (bytes, begins, stops) = taken.stops in stopped (start.Record place f) bytes begins stops
  taken_not_whole (start.Entry f) taken = let (bytes, begins, stops) = taken.stops in stopped (start.Entry f) bytes begins stops
  taken_not_whole start.Head taken = absurd taken.stops
  taken_not_whole start.OtherRules taken = absurd taken.stops
  taken_not_whole start.NoMemory taken = absurd taken.stops

  pub taken_cause : (before after : Disk) → before.seen ≡ file → FailsNone before after → (fault : StartFault) → IsHistoryTaken h end (Some fault) file → IsStartCause before after fault
  taken_cause before after seen none (start.TornTooLong at bytes) taken = none
  taken_cause before after seen none (start.Journal (open_faults.Refused (refusals.Damaged at))) taken = (ap contents seen ∙ taken.stops.0, none)
  taken_cause before after seen none (start.Journal (open_faults.Refused refusals.NotAJournal)) taken = absurd taken.stops
  taken_cause before after seen none (start.Journal (open_faults.Device f)) taken = absurd taken.stops
  taken_cause before after seen none (start.Record place f) taken = none
  taken_cause before after seen none (start.Entry f) taken = none
  taken_cause before after seen none start.Head taken = absurd taken.stops
  taken_cause before after seen none start.OtherRules taken = absurd taken.stops
  taken_cause before after seen none start.NoMemory taken = absurd taken.stops

pub unsalvaged_not_whole : (fault : SalvageFault) (file : List ℕ) → IsUnsalvaged fault file → IsNotBackedUp fault file
unsalvaged_not_whole (Old start.Head) file is = is
unsalvaged_not_whole (Old (start.Journal (open_faults.Refused refusals.NotAJournal))) file is = is
unsalvaged_not_whole (Old (start.Journal (open_faults.Refused (refusals.Damaged at)))) file is = is.0
unsalvaged_not_whole (Old (start.Journal (open_faults.Device f))) file is = tt
unsalvaged_not_whole (Old start.NoMemory) file is = tt
unsalvaged_not_whole (Old start.OtherRules) file is = absurd is
unsalvaged_not_whole (Old (start.Record place f)) file is = absurd is
unsalvaged_not_whole (Old (start.Entry f)) file is = absurd is
unsalvaged_not_whole (Old (start.TornTooLong at bytes)) file is = absurd is
unsalvaged_not_whole (New f) file is = tt

-- a file of which the head was read, and a new one that has only the head

module _ (rules : Rules) (clients : IsClients rules.clients_max) {N : Type 0} (disk : N → Disk) (tells : Type 0) (holds : List ℕ → Type 0) (first : ScanState)
    (created last : Keeping N) (kept : tells → Keeps disk (history_of rules.profile rules.clients_max []) created) (empty : created.state ≡ start_state rules.profile rules.clients_max) where
  abbrev top : List ℕ
  top = head_record rules.profile rules.clients_max

  abbrev reads : List ℕ → Type 0
  reads = HoldsRead holds (top ∷ []) first

  module _ (records : List (List ℕ)) (here : ScanState) (after : Keeping N) (taken : Taken disk tells holds records first here created after) where
    leading : RecordsLead (start_state rules.profile rules.clients_max) records after.state
    leading = subst (λ (S : State). RecordsLead S records after.state) empty taken.leads

    begins : (file : List ℕ) → reads file → BeginsWith (top ∷ records) file
    begins file of = (taken.read file (top ∷ []) of.0 of.1).begins

    lines : tells → all_records disk created.journal ++ records ≡ top ∷ records
    lines t =
        ap (λ (l : List (List ℕ)). (l ++ created.journal.waiting) ++ records) (kept t).file
        ∙ ap (λ (l : List (List ℕ)). ((top ∷ []) ++ l) ++ records) (kept t).fresh.none_waits

    between : tells → (to : Disk)
        → LeavesOnly (disk created.journal.device) to (IsBetween (recorded (disk created.journal.device).seen) (all_records disk created.journal ++ records))
        → LeavesOnly (disk created.journal.device) to (IsBetween (top ∷ []) (top ∷ records))
    between t to leaves =
        subst (λ (l : List (List ℕ)). LeavesOnly (disk created.journal.device) to (IsBetween (top ∷ []) l)) (lines t)
        (subst (λ (r : List (List ℕ)). LeavesOnly (disk created.journal.device) to (IsBetween r (all_records disk created.journal ++ records))) (kept t).file leaves)

    all_moments : tells → (before to : Disk) → is_blank before.seen ≡ true → LeavesOnly before (disk created.journal.device) (LedgerMayBeCreated rules.profile rules.clients_max before)
        → LeavesOnly (disk created.journal.device) to (IsBetween (recorded (disk created.journal.device).seen) (all_records disk created.journal ++ records))
        → LeavesOnly before to (MayBeSalvaged reads before)
    all_moments t before to blank made leaves =
        moments_of_all rules clients records after.state leading reads begins before (disk created.journal.device) to blank made (between t to leaves)

  pub salvaged_all : last.usable ≡ true → last.cut ≡ 0 → (extent : Extent) (stop : Option StartFault) → TakesRest disk tells holds (Ok (extent, stop)) first created last
      → IsSalvaged tells disk reads (record { keeper = last; end = extent.end; stop = stop })
  salvaged_all usable uncut extent stop (records, here, taken, none_waits, end, stops) =
      let leads = leading records here last taken in
      let history = told rules clients records last.state leads in
      let spelled = told_spelled rules clients records last.state leads in
      record {
        history = history;
        keeper = record {
          keepable = told_keepable rules clients records last.state leads;
          state = leads.state;
          kept = λ t. record {
            fresh = record { ready = (taken.queues t).ready; none_waits = none_waits };
            file = sym (append-nil (recorded (disk last.journal.device).seen))
                ∙ ap (λ (l : List (List ℕ)). recorded (disk last.journal.device).seen ++ l) (sym none_waits)
                ∙ (taken.queues t).records_are
                ∙ lines records here last taken t
                ∙ spelled;
            state = leads.state;
            keepable = told_keepable rules clients records last.state leads;
          };
          usable = record { kept = usable; journal = taken.usable };
          uncut = uncut;
        };
        taken = λ file of.
            let at = taken.read file (top ∷ []) of.0 of.1 in
            record {
              begins = subst (λ (r : List (List ℕ)). BeginsWith r file) spelled at.begins;
              end_is = end ∙ at.end ∙ ap records_end spelled;
              stops = subst (λ (r : List (List ℕ)). StopsBehind stop r (history_state history) file) spelled
                  (subst (λ (S : State). StopsBehind stop (top ∷ records) S file) leads.state (stops file (top ∷ []) of.0 of.1));
            };
      }

  pub unsalvaged_all : (fault : SalvageFault) → TakesRest disk tells holds (Err fault) first created last → (file : List ℕ) → reads file → IsUnsalvaged fault file
  unsalvaged_all fault (records, here, middle, taken, untaken, is) file of = is file (top ∷ []) of.0 of.1

  pub moments_behind : tells → (result : Result (Extent × Option StartFault) SalvageFault) → (before : Disk) → is_blank before.seen ≡ true
      → LeavesOnly before (disk created.journal.device) (LedgerMayBeCreated rules.profile rules.clients_max before)
      → TakesRest disk tells holds result first created last → LeavesOnly before (disk last.journal.device) (MayBeSalvaged reads before)
  moments_behind t (Ok found) before blank made (records, here, taken, none_waits, end, stops) =
      all_moments records here last taken t before (disk last.journal.device) blank made (taken.queues t).any_moment
  moments_behind t (Err (Old fault)) before blank made (records, here, middle, taken, same, is) =
      subst (λ (j : Kept N). LeavesOnly before (disk j.device) (MayBeSalvaged reads before)) (sym same)
      (all_moments records here middle taken t before (disk middle.journal.device) blank made (taken.queues t).any_moment)
  moments_behind t (Err (New fault)) before blank made (records, here, middle, taken, (f, named, breaks), is) =
      all_moments records here middle taken t before (disk last.journal.device) blank made
      (subst (λ (r : List (List ℕ)). LeavesOnly (disk created.journal.device) (disk last.journal.device) (IsBetween (recorded (disk created.journal.device).seen) (all_records disk created.journal ++ r)))
      (append-nil records) (breaks_then disk created.journal middle.journal last.journal records [] (taken.queues t) f (breaks t)).any_moment)

  pub cause_behind : tells → (result : Result (Extent × Option StartFault) SalvageFault) → (before : Disk) → FailsNone before (disk created.journal.device)
      → TakesRest disk tells holds result first created last → HasNewCause (of_new result) before (disk last.journal.device)
  cause_behind t (Ok found) before none (records, here, taken, none_waits, end, stops) =
      record { ok = none_since before (disk created.journal.device) (disk last.journal.device) none (taken.queues t).none; cause = tt; alone = tt }
  cause_behind t (Err (Old fault)) before none (records, here, middle, taken, same, is) =
      record {
        ok = subst (λ (j : Kept N). FailsNone before (disk j.device)) (sym same) (none_since before (disk created.journal.device) (disk middle.journal.device) none (taken.queues t).none);
        cause = tt;
        alone = tt;
      }
  cause_behind t (Err (New fault)) before none (records, here, middle, taken, (f, named, breaks), is) =
      record {
        ok = tt;
        cause = subst (λ (g : StartFault). IsNewCause before (disk last.journal.device) g) (sym named)
            (inr (write_cause_since before (disk created.journal.device) (disk last.journal.device) f none
            (write_cause_since (disk created.journal.device) (disk middle.journal.device) (disk last.journal.device) f (taken.queues t).none (breaks t).cause)));
        alone = subst (λ (g : StartFault). IsLeftAlone before (disk last.journal.device) g) (sym named)
            (written_alone before (disk middle.journal.device) (disk last.journal.device) f (breaks t).cause);
      }

module _ (rules : Rules) (clients : IsClients rules.clients_max) (holds : List ℕ → Type 0) (first : ScanState) (before after : Disk) where
  pub moments_not_made : LeavesOnly before after (LedgerMayBeCreated rules.profile rules.clients_max before) → LeavesOnly before after (MayBeSalvaged (HoldsRead holds (head_record rules.profile rules.clients_max ∷ []) first) before)
  moments_not_made leaves =
      moments_of_none rules.profile rules.clients_max (HoldsRead holds (head_record rules.profile rules.clients_max ∷ []) first) before after leaves
      (λ c alone.
      first_ledger rules clients [] (start_state rules.profile rules.clients_max) (leads_none (start_state rules.profile rules.clients_max))
      (HoldsRead holds (head_record rules.profile rules.clients_max ∷ []) first) (λ file of. of.1.begins) c ([], [], alone, refl))

-- a backup of what was salvaged

module _ (tells : Type 0) {N : Type 0} (disk : N → Disk) (holds : List ℕ → Type 0) (s : Salvaged N) (is : IsSalvaged tells disk holds s) where
  pub backed_up : s.stop ≡ None → IsBackedUp tells disk holds s.keeper
  backed_up whole = record {
    history = is.history;
    kept = is.keeper;
    whole = λ file of.
        let taken = subst (λ (stop : Option StartFault). IsHistoryTaken is.history s.end stop file) whole (is.taken file of) in
        (whole_history is.history s.end file is.keeper.keepable taken, taken.stops.1);
  }

  pub not_backed_up : (fault : StartFault) → s.stop ≡ Some fault → (file : List ℕ) → holds file → IsNotBackedUp (Old fault) file
  not_backed_up fault stop file of =
      taken_not_whole is.history is.keeper.keepable s.end file fault (subst (λ (o : Option StartFault). IsHistoryTaken is.history s.end o file) stop (is.taken file of))

  pub backup_cause : (fault : StartFault) → s.stop ≡ Some fault → (before after : Disk) → holds before.seen → FailsNone before after → IsStartCause before after fault
  backup_cause fault stop before after of none =
      taken_cause is.history is.keeper.keepable s.end before.seen before after refl none fault
      (subst (λ (o : Option StartFault). IsHistoryTaken is.history s.end o before.seen) stop (is.taken before.seen of))

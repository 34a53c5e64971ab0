-- Records that are copied after damage.
use Rattle.std.proofs.Common.{arith, ℕ, ◌≡◌, ◌+◌, ◌≤◌, true, List, [], ◌∷◌, ◌++◌, map, length, Result, Ok, Err, refl, sym, ap, ◌∙◌, subst, append_assoc, append-nil}
use Rattle.std.proofs.lemmas.List.{append_cancel_left}
use Rattle.tb_file_journal.specs.Device.{Disk, LeavesOnly}
use Rattle.tb_file_journal.specs.Contents.{Records, recorded}
use Rattle.tb_file_journal.specs.Ready.{Kept, IsReady}
use Rattle.tb_file_journal.specs.Seeking.{SeekState, IsSeeking, StandsAt}
use Rattle.tb_file_journal.proofs.Moments.{weaker}
use Rattle.tb_machine.specs.declared.entries.Entry.{Entry}
use Rattle.tb_machine.specs.Dumps.{dumped}
use Rattle.tb_machine.specs.Histories.{State, start as start_state}
use Rattle.tb_file.specs.Keeping.{History, longer, history_state, records_of, head_record, Keeping, Keeps, IsKeepable, IsLedger}
use Rattle.tb_file.specs.declared.faults.SalvageFault.{SalvageFault}
use Rattle.tb_file.specs.declared.faults.SalvageFault.TheVariants.{Old, New}
use Rattle.tb_file.specs.Recovering.{RecordsLead}
use Rattle.tb_file.specs.ReadingOn.{StandBetween, IsReadOn, LeavesLonger}
use Rattle.tb_file.specs.private.Behind.{TakenOn, TakesOn}
use Rattle.tb_file.specs.private.Taking.{TakesRecord, CommitsTaken, IsUntaken}
use Rattle.tb_file.specs.RecordSteps.{IsBetween, all_records, Queues}
use Rattle.tb_file.proofs.Entered.{Latest}
use Rattle.tb_file.proofs.Leading.{leads_none}
use Rattle.tb_file.proofs.Taking.{queues_none, queues_then, breaks_then, leads_join, leads_one, leads_first}

-- records that are in a file

stand_from : (records : List (List ℕ)) (at later end : ℕ) (file : List ℕ) → at ≤ later → StandBetween later records end file → StandBetween at records end file
stand_from [] at later end file le stand = omega (arith, le, stand)
stand_from (r ∷ records) at later end file le (place, behind, stands, rest) = (place, omega (arith, le, behind), stands, rest)

stand_then : (xs ys : List (List ℕ)) (at mid end : ℕ) (file : List ℕ) → StandBetween at xs mid file → StandBetween mid ys end file → StandBetween at (xs ++ ys) end file
stand_then [] ys at mid end file one two = stand_from ys at mid end file one two
stand_then (x ∷ xs) ys at mid end file (place, behind, stands, rest) two =
    (place, behind, stands, stand_then xs ys (place + (4 + length x)) mid end file rest two)

module _ {N : Type 0} (disk : N → Disk) (tells : Type 0) where
  module _ (holds : List ℕ → Type 0) where
    -- nothing was copied
    pub on_none : (first here : SeekState) (before after : Keeping N) → (tells → Latest (disk before.journal.device)) → before.journal.usable ≡ true → (tells → IsReady disk before.journal)
        → after.state ≡ before.state → after.journal ≡ before.journal → first.at ≤ here.at → ((file : List ℕ) → holds file → IsSeeking file first → IsSeeking file here)
        → TakenOn disk tells holds [] first here before after
    on_none first here before after now usable ready state journal le seeks = record {
      leads = subst (λ (S : State). RecordsLead before.state [] S) (sym state) (leads_none before.state);
      usable = ap (λ (j : Kept N). j.usable) journal ∙ usable;
      queues = λ t. subst (λ (j : Kept N). Queues disk [] before.journal j) (sym journal) (queues_none disk before.journal (now t) (ready t));
      stand = λ file of seeking. (le, seeks file of seeking);
    }

    -- one record was
    pub on_one : (first here : SeekState) (bytes : List ℕ) (before after : Keeping N) → TakesRecord disk tells (Ok tt) bytes before after → here.at ≡ first.at + (4 + length bytes)
        → ((file : List ℕ) → holds file → IsSeeking file first → StandsAt first.at bytes file × IsSeeking file here)
        → TakenOn disk tells holds (bytes ∷ []) first here before after
    on_one first here bytes before after takes far stands = record {
      leads = leads_one before.state after.state bytes takes.0;
      usable = takes.1;
      queues = takes.2;
      stand = λ file of seeking.
          let (there, seeks) = stands file of seeking in
          let end : first.at + (4 + length bytes) ≤ here.at = omega (arith, far) in
          ((first.at, (let le : first.at ≤ first.at = omega arith in le), there, end), seeks);
    }

    pub on_then : (xs ys : List (List ℕ)) (p q r : SeekState) (a b c : Keeping N) → TakenOn disk tells holds xs p q a b → TakenOn disk tells holds ys q r b c → TakenOn disk tells holds (xs ++ ys) p r a c
    on_then xs ys p q r a b c one two = record {
      leads = leads_join a.state b.state c.state xs ys one.leads two.leads;
      usable = two.usable;
      queues = λ t. queues_then disk a.journal b.journal c.journal xs ys (one.queues t) (two.queues t);
      stand = λ file of seeking.
          let (first, here) = one.stand file of seeking in
          let (second, there) = two.stand file of here in
          (stand_then xs ys p.at q.at r.at file first second, there);
    }

    -- and then others, or nothing more
    pub on_then_on : {T : Type 0} (result : Result T SalvageFault) (xs : List (List ℕ)) (p q r : SeekState) (a b c : Keeping N) → TakenOn disk tells holds xs p q a b → TakesOn disk tells holds result q r b c
        → TakesOn disk tells holds result p r a c
    on_then_on {T} (Ok value) xs p q r a b c one (ys, two) = (xs ++ ys, on_then xs ys p q r a b c one two)
    on_then_on {T} (Err fault) xs p q r a b c one (ys, middle, place, two, untaken) =
        (xs ++ ys, middle, place, on_then xs ys p q place a b middle one two, untaken)

    pub on_untaken : (T : Type 0) (fault : SalvageFault) (first here : SeekState) (before after : Keeping N) → (tells → Latest (disk before.journal.device)) → before.journal.usable ≡ true
        → (tells → IsReady disk before.journal) → IsUntaken disk tells fault before after → TakesOn disk tells holds {T = T} (Err fault) first here before after
    on_untaken T fault first here before after now usable ready untaken =
        ([], before, first, on_none first first before before now usable ready refl refl (omega arith) (λ file of seeking. seeking), untaken)

  -- by a device that is still the same
  module _ (holds later : List ℕ → Type 0) (same : (file : List ℕ) → holds file → later file) where
    of_same : (records : List (List ℕ)) (first here : SeekState) (before after : Keeping N) → TakenOn disk tells later records first here before after → TakenOn disk tells holds records first here before after
    of_same records first here before after taken =
        record { leads = taken.leads; usable = taken.usable; queues = taken.queues; stand = λ file of seeking. taken.stand file (same file of) seeking }

    pub takes_same : {T : Type 0} (result : Result T SalvageFault) (first here : SeekState) (before after : Keeping N) → TakesOn disk tells later result first here before after
        → TakesOn disk tells holds result first here before after
    takes_same {T} (Ok value) first here before after (records, taken) = (records, of_same records first here before after taken)
    takes_same {T} (Err fault) first here before after (records, middle, place, taken, untaken) =
        (records, middle, place, of_same records first place before middle taken, untaken)

-- the history of a new file, and what goes on from it

module _ (h : History) (keepable : IsKeepable h) where
  abbrev first_state : State
  first_state = start_state h.profile h.clients_max

  leads : RecordsLead first_state (map dumped h.entries) (history_state h)
  leads = record { entries = h.entries; legal = keepable.legal; state = refl; recorded_are = keepable.recorded_are; spelled = refl }

  module _ (T : State) (records : List (List ℕ)) where
    -- the longer history, by the state before the records and the entries that lead from it
    abbrev Goes : (S : State) → RecordsLead S records T → Type 0
    Goes S more = IsKeepable (longer h more.entries) × (T ≡ history_state (longer h more.entries)) × (records_of h ++ records ≡ records_of (longer h more.entries))

    from_here : (more : RecordsLead (history_state h) records T) → Goes (history_state h) more
    unfolding leads leads_join
    from_here more =
        let all = leads_join first_state (history_state h) T (map dumped h.entries) records leads more in (
          record { clients = keepable.clients; legal = all.legal; recorded_are = all.recorded_are },
          all.state,
          ap (λ (l : List (List ℕ)). head_record h.profile h.clients_max ∷ l) all.spelled,
        )

    pub goes_on : (S : State) → S ≡ history_state h → (more : RecordsLead S records T) → Goes S more
    goes_on S is = subst (λ (U : State). (more : RecordsLead U records T) → Goes U more) (sym is) from_here

module _ {N : Type 0} (disk : N → Disk) (before : Keeping N) (h : History) (keeps : Keeps disk h before) where
  abbrev base : List (List ℕ)
  base = recorded (disk before.journal.device).seen

  lines : (records : List (List ℕ)) → all_records disk before.journal ++ records ≡ records_of h ++ records
  lines records =
      ap (λ (l : List (List ℕ)). l ++ records)
      (ap (λ (l : List (List ℕ)). l ++ before.journal.waiting) keeps.file ∙ ap (λ (w : List (List ℕ)). records_of h ++ w) keeps.fresh.none_waits ∙ append-nil (records_of h))

  pub keeps_on : (records : List (List ℕ)) (after : Keeping N) (more : RecordsLead before.state records after.state) → Queues disk records before.journal after.journal → after.journal.waiting ≡ []
      → Keeps disk (longer h more.entries) after
  keeps_on records after more queues none =
      let (keepable, state, spelled) = goes_on h keeps.keepable after.state records before.state keeps.state more in
      let file = recorded (disk after.journal.device).seen in
      record {
        fresh = record { ready = queues.ready; none_waits = none };
        file = sym (append-nil file) ∙ ap (λ (l : List (List ℕ)). file ++ l) (sym none) ∙ queues.records_are ∙ lines records ∙ spelled;
        state = state;
        keepable = keepable;
      }

  module _ (records : List (List ℕ)) (T : State) (more : RecordsLead before.state records T) where
    crashed : (c : List ℕ) → IsBetween base (all_records disk before.journal ++ records) c → (others : List Entry) × IsLedger (longer h others) c
    crashed c (some, rest, reads, is) =
        let parts : records ≡ some ++ rest =
        append_cancel_left (records_of h) records (some ++ rest)
        (sym (lines records) ∙ is ∙ append_assoc base some rest ∙ ap (λ (l : List (List ℕ)). l ++ (some ++ rest)) keeps.file) in
        let (U, first) = leads_first before.state T some rest (subst (λ (r : List (List ℕ)). RecordsLead before.state r T) parts more) in
        let (keepable, state, spelled) = goes_on h keeps.keepable U some before.state keeps.state first in
        (first.entries, record { reads = reads ∙ ap Records (ap (λ (l : List (List ℕ)). l ++ some) keeps.file ∙ spelled); keepable = keepable })

    pub leaves_longer : (to : Disk) → LeavesOnly (disk before.journal.device) to (IsBetween base (all_records disk before.journal ++ records)) → LeavesLonger h (disk before.journal.device) to
    leaves_longer to leaves =
        weaker (disk before.journal.device) to (IsBetween base (all_records disk before.journal ++ records)) (λ c. (others : List Entry) × IsLedger (longer h others) c) crashed leaves

-- what a call leaves

module _ {N : Type 0} (disk : N → Disk) (tells : Type 0) (holds : List ℕ → Type 0) (first : SeekState) (before : Keeping N) where
  module _ (records : List (List ℕ)) (here : SeekState) (mid : Keeping N) (taken : TakenOn disk tells holds records first here before mid) where
    all_more : RecordsLead before.state (records ++ []) mid.state
    all_more = subst (λ (r : List (List ℕ)). RecordsLead before.state r mid.state) (sym (append-nil records)) taken.leads

    pub untaken_leaves : (t : tells) (h : History) → Keeps disk h before → (fault : SalvageFault) (after : Keeping N) → IsUntaken disk tells fault mid after
        → LeavesLonger h (disk before.journal.device) (disk after.journal.device)
    untaken_leaves t h keeps (Old fault) after same =
        subst (λ (j : Kept N). LeavesLonger h (disk before.journal.device) (disk j.device)) (sym same)
        (leaves_longer disk before h keeps records mid.state taken.leads (disk mid.journal.device) (taken.queues t).any_moment)
    untaken_leaves t h keeps (New fault) after (f, is, breaks) =
        leaves_longer disk before h keeps (records ++ []) mid.state all_more (disk after.journal.device)
        (breaks_then disk before.journal mid.journal after.journal records [] (taken.queues t) f (breaks t)).any_moment

    pub uncommitted : (fault : SalvageFault) (after : Keeping N) → CommitsTaken disk tells (Err fault) mid after → IsUntaken disk tells fault mid after
    uncommitted fault after (f, is, breaks) = subst (λ (g : SalvageFault). IsUntaken disk tells g mid after) (sym is) (f, refl, breaks)

    module _ (after : Keeping N) (commits : CommitsTaken disk tells (Ok tt) mid after) where
      queued : tells → Queues disk records before.journal after.journal
      queued t =
          subst (λ (r : List (List ℕ)). Queues disk r before.journal after.journal) (append-nil records)
          (queues_then disk before.journal mid.journal after.journal records [] (taken.queues t) (commits.3 t))

      more : RecordsLead before.state records after.state
      more = subst (λ (S : State). RecordsLead before.state records S) (sym commits.0) taken.leads

      pub committed_leaves : tells → (h : History) → Keeps disk h before → LeavesLonger h (disk before.journal.device) (disk after.journal.device)
      committed_leaves t h keeps = leaves_longer disk before h keeps records after.state more (disk after.journal.device) (queued t).any_moment

      pub read_on_done : ((file : List ℕ) → holds file → IsSeeking file first) → after.usable ≡ true → IsReadOn tells disk holds first.at before after
      read_on_done seeking usable = record {
        records = records;
        leads = more;
        stand = λ file of. (here.at, (taken.stand file of (seeking file of)).0);
        kept = λ t h keeps. keeps_on disk before h keeps records after more (queued t) commits.2;
        usable = record { kept = usable; journal = commits.1 };
      }

  pub left : (T : Type 0) (fault : SalvageFault) (here : SeekState) (after : Keeping N) → TakesOn disk tells holds {T = T} (Err fault) first here before after → tells → (h : History) → Keeps disk h before
      → LeavesLonger h (disk before.journal.device) (disk after.journal.device)
  left T fault here after (records, mid, place, taken, untaken) t h keeps = untaken_leaves records place mid taken t h keeps fault after untaken

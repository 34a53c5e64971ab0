-- The entries of pairs that are served make a longer history that a file can represent.
use Rattle.std.proofs.Common.{arith, ◌≡◌, Bool, true, false, cond, List, [], ◌∷◌, ◌++◌, map, refl, sym, ap, IsTrue}
use Rattle.std.proofs.lemmas.Grind.{common_steps}
use Rattle.std.proofs.lemmas.List.{map-append}
use Rattle.tb_file_journal.specs.Device.{Disk}
use Rattle.tb_machine.specs.declared.entries.Entry.{Entry}
use Rattle.tb_machine.specs.Dumps.{dumped}
use Rattle.tb_machine.specs.Recording.{IsRecord}
use Rattle.tb_machine.specs.Histories.{State, start, fits, step, LegalFrom}
use Rattle.tb_machine.specs.Scripts.{Pair, entry_of, is_entered, after_pair}
use Rattle.tb_machine.proofs.Legal.{legal_join}
use Rattle.tb_file.specs.Keeping.{History, history_state, longer, head_record, records_of, AreRecorded, IsKeepable}
use Rattle.tb_file.specs.Rounds.{state_from, entries_from, AreServed, pairs_of, Standing, Rounds}

legal_pairs : (S : State) (ps : List Pair) → AreServed S ps → LegalFrom S (entries_from S ps)
legal_pairs S [] served = tt
legal_pairs S (p ∷ ps) served = by (is_entered S p) served.0.legal (legal_pairs (after_pair S p) ps served.1)
  where
    by : (b : Bool) → (b ≡ true → IsTrue (fits S (entry_of S p))) → LegalFrom (cond b (step S (entry_of S p)) S) (entries_from (after_pair S p) ps)
        → LegalFrom S (cond b (entry_of S p ∷ []) [] ++ entries_from (after_pair S p) ps)
    by true legal more = (legal refl, more)
    by false legal more = more

recorded_pairs : (S : State) (ps : List Pair) → AreServed S ps → AreRecorded (entries_from S ps)
recorded_pairs S [] served = tt
recorded_pairs S (p ∷ ps) served = by (is_entered S p) served.0.recorded_is (recorded_pairs (after_pair S p) ps served.1)
  where
    by : (b : Bool) → (b ≡ true → IsRecord (dumped (entry_of S p)) (entry_of S p)) → AreRecorded (entries_from (after_pair S p) ps)
        → AreRecorded (cond b (entry_of S p ∷ []) [] ++ entries_from (after_pair S p) ps)
    by true is more = (is refl, more)
    by false is more = more

recorded_join : (es fs : List Entry) → AreRecorded es → AreRecorded fs → AreRecorded (es ++ fs)
recorded_join [] fs all more = more
recorded_join (e ∷ es) fs all more = (all.0, recorded_join es fs all.1 more)

pub served_front : (S : State) (ps qs : List Pair) → AreServed S (ps ++ qs) → AreServed S ps
served_front S [] qs served = tt
served_front S (p ∷ ps) qs served = (served.0, served_front (after_pair S p) ps qs served.1)

pub served_join : (S : State) (ps qs : List Pair) → AreServed S ps → AreServed (state_from S ps) qs → AreServed S (ps ++ qs)
served_join S [] qs served more = more
served_join S (p ∷ ps) qs served more = (served.0, served_join (after_pair S p) ps qs served.1 more)

pub keepable_longer : (h : History) (ps : List Pair) → IsKeepable h → AreServed (history_state h) ps → IsKeepable (longer h (entries_from (history_state h) ps))
keepable_longer h ps is served = record {
  clients = is.clients;
  legal = legal_join (start h.profile h.clients_max) h.entries (entries_from (history_state h) ps) is.legal (legal_pairs (history_state h) ps served);
  recorded_are = recorded_join h.entries (entries_from (history_state h) ps) is.recorded_are (recorded_pairs (history_state h) ps served);
}

pub records_longer : (h : History) (es : List Entry) → records_of h ++ map dumped es ≡ records_of (longer h es)
records_longer h es = ap (λ records. head_record h.profile h.clients_max ∷ records) (sym (map-append dumped h.entries es))

module _ (tells : Type 0) {D : Type 0} (disk : D → Disk) where
  pub rounds_are_served : (done : List (List Pair)) (first before : Standing D) → Rounds tells disk done first before → AreServed first.state (pairs_of done)
  rounds_are_served [] first before kept = tt
  rounds_are_served (ps ∷ done) first before kept =
      grind (arith, common_steps, served_join, rounds_are_served done kept.0 before kept.2)

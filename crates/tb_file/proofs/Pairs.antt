-- Pairs that come one after another, and one more.
use Rattle.std.proofs.Common.{◌≡◌, List, [], ◌∷◌, ◌++◌, map, flat_map, refl, sym, ap, ◌∙◌, append_assoc, append-nil}
use Rattle.std.proofs.lemmas.Grind.{flat_map-append}
use Rattle.std.proofs.lemmas.List.{map-append}
use Rattle.tb_records.specs.ReplyFrames.{reply_bytes}
use Rattle.tb_machine.specs.Dumps.{dumped}
use Rattle.tb_machine.specs.Histories.{State}
use Rattle.tb_machine.specs.Scripts.{Pair, after_pair}
use Rattle.tb_file.specs.Rounds.{state_from, entered, entries_from, records_from, answers_from, reply_bytes_from, IsServed, AreServed, pairs_of}

pub state_snoc : (S : State) (ps : List Pair) (p : Pair) → state_from S (ps ++ p ∷ []) ≡ after_pair (state_from S ps) p
state_snoc S [] p = refl
state_snoc S (q ∷ qs) p = state_snoc (after_pair S q) qs p

pub entries_join : (S : State) (ps qs : List Pair) → entries_from S (ps ++ qs) ≡ entries_from S ps ++ entries_from (state_from S ps) qs
entries_join S [] qs = refl
entries_join S (p ∷ ps) qs = ap (λ es. entered S p ++ es) (entries_join (after_pair S p) ps qs) ∙ sym (append_assoc (entered S p) (entries_from (after_pair S p) ps) (entries_from (state_from (after_pair S p) ps) qs))

pub records_join : (S : State) (ps qs : List Pair) → records_from S (ps ++ qs) ≡ records_from S ps ++ records_from (state_from S ps) qs
records_join S ps qs = ap (map dumped) (entries_join S ps qs) ∙ map-append dumped (entries_from S ps) (entries_from (state_from S ps) qs)

pub answers_join : (S : State) (ps qs : List Pair) → answers_from S (ps ++ qs) ≡ answers_from S ps ++ answers_from (state_from S ps) qs
answers_join S [] qs = refl
answers_join S (p ∷ ps) qs = ap (λ rest. answers_from S (p ∷ []) ++ rest) (answers_join (after_pair S p) ps qs)

pub replies_join : (S : State) (ps qs : List Pair) → reply_bytes_from S (ps ++ qs) ≡ reply_bytes_from S ps ++ reply_bytes_from (state_from S ps) qs
replies_join S ps qs = ap (flat_map reply_bytes) (answers_join S ps qs) ∙ flat_map-append reply_bytes (answers_from S ps) (answers_from (state_from S ps) qs)

pub served_snoc : (S : State) (ps : List Pair) (p : Pair) → AreServed S ps → IsServed (state_from S ps) p → AreServed S (ps ++ p ∷ [])
served_snoc S [] p all one = (one, tt)
served_snoc S (q ∷ qs) p all one = (all.0, served_snoc (after_pair S q) qs p all.1 one)

pub pairs_snoc : (rounds : List (List Pair)) (ps : List Pair) → pairs_of (rounds ++ ps ∷ []) ++ [] ≡ pairs_of rounds ++ ps
pairs_snoc rounds ps = append-nil (pairs_of (rounds ++ ps ∷ [])) ∙ by rounds
  where
    by : (rounds : List (List Pair)) → pairs_of (rounds ++ ps ∷ []) ≡ pairs_of rounds ++ ps
    by [] = append-nil ps
    by (qs ∷ rounds) = ap (λ rest. qs ++ rest) (by rounds) ∙ sym (append_assoc qs (pairs_of rounds) ps)

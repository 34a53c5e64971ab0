-- Entries and answers after a state are those after its history.
use Rattle.std.proofs.Common.{◌≡◌, ℕ, Bool, true, false, cond, List, [], ◌∷◌, ◌++◌, refl, sym, ap, ◌∙◌, append_assoc, append-nil}
use Rattle.tb_records.specs.declared.limits.Profile.{Profile}
use Rattle.tb_machine.specs.declared.entries.Entry.{Entry}
use Rattle.tb_machine.specs.Histories.{State, after, answer_to}
use Rattle.tb_machine.specs.Scripts.{Pair, entry_of, is_entered, after_pair, accepted, replies_from, grown}
use Rattle.tb_machine.proofs.Running.{after_with_pair}
use Rattle.tb_file.specs.Rounds.{entered, entries_from, answers_from}

module _ (profile : Profile) (clients_max : ℕ) where
  with_entered : (h : List Entry) (p : Pair) → h ++ entered (after profile clients_max h) p ≡ grown (after profile clients_max) h p
  with_entered h p = by (is_entered (after profile clients_max h) p)
    where
      by : (b : Bool) → h ++ cond b (entry_of (after profile clients_max h) p ∷ []) [] ≡ cond b (h ++ entry_of (after profile clients_max h) p ∷ []) h
      by true = refl
      by false = append-nil h

  pub entries_are : (h : List Entry) (ps : List Pair) → h ++ entries_from (after profile clients_max h) ps ≡ accepted profile clients_max h ps
  entries_are h [] = append-nil h
  entries_are h (p ∷ ps) =
      sym (append_assoc h (entered (after profile clients_max h) p) (entries_from (after_pair (after profile clients_max h) p) ps))
      ∙ ap (λ l. l ++ entries_from (after_pair (after profile clients_max h) p) ps) (with_entered h p)
      ∙ ap (λ (S : State). grown (after profile clients_max) h p ++ entries_from S ps) (sym (after_with_pair profile clients_max h p))
      ∙ entries_are (grown (after profile clients_max) h p) ps

  pub answers_are : (h : List Entry) (ps : List Pair) → answers_from (after profile clients_max h) ps ≡ replies_from profile clients_max h ps
  answers_are h [] = refl
  answers_are h (p ∷ ps) =
      ap (λ (S : State). answer_to S p.1 ∷ answers_from S ps) (sym (after_with_pair profile clients_max h p))
      ∙ ap (λ l. answer_to (after profile clients_max (grown (after profile clients_max) h p)) p.1 ∷ l) (answers_are (grown (after profile clients_max) h p) ps)

-- A server that reads a script: its replies are answers after parts of the history that it makes, whose requests are the script's.
use Rattle.std.proofs.Common.{◌≡◌, ℕ, Bool, true, false, cond, List, [], ◌∷◌, ◌++◌, None, refl, sym, ap, ◌∙◌, subst, append_assoc, append-nil}
use mathlib.Core.List.{IsPrefix}
use Rattle.tb_records.specs.declared.limits.Profile.{Profile}
use Rattle.tb_records.specs.Messages.{Message, Answer}
use Rattle.tb_records.specs.Ordered.{Each}
use Rattle.tb_records.proofs.ByKey.{each-map}
use Rattle.tb_machine.specs.declared.entries.Entry.{Entry}
use Rattle.tb_machine.specs.Histories.{IsLegal, after, answer_to}
use Rattle.tb_machine.specs.Scripts.{Pair, entry_of, is_entered, accepted, replies_from, grown}
use Rattle.tb_machine.proofs.Rows.{each_snoc}
use Rattle.tb_machine.specs.ScriptLaws.{AreLawful}
use Rattle.tb_machine.proofs.MarkLegal.{legal_with_at}
use Rattle.tb_caller.specs.Endpoints.{IsAmong}
use Rattle.tb_caller.specs.Calls.{NoneInvented, IsAnswered}
use Rattle.tb_caller.specs.CallLaws.{InScript, IsFromLog, InLog}
use Rattle.tb_caller.proofs.Lists.{each_among, among_before}
use Rattle.tb_caller.proofs.Entered.{in_history}

module _ (profile : Profile) (clients_max : ℕ) where
  prefix_with : (h : List Entry) (p : Pair) → IsPrefix h (grown (after profile clients_max) h p)
  prefix_with h p = by (is_entered (after profile clients_max h) p)
    where
      by : (b : Bool) → IsPrefix h (cond b (h ++ entry_of (after profile clients_max h) p ∷ []) h)
      by true = (entry_of (after profile clients_max h) p ∷ [], refl)
      by false = ([], append-nil h)

  prefix_accepted : (h : List Entry) (ps : List Pair) → IsPrefix h (accepted profile clients_max h ps)
  prefix_accepted h [] = ([], append-nil h)
  prefix_accepted h (p ∷ ps) =
      let one = prefix_with h p in
      let rest = prefix_accepted (grown (after profile clients_max) h p) ps in
      (one.0 ++ rest.0, sym (append_assoc h one.0 rest.0) ∙ ap (λ l. l ++ rest.0) one.1 ∙ rest.1)

  pub answered : (h : List Entry) (ps : List Pair) → Each (IsAnswered (after profile clients_max) (accepted profile clients_max h ps)) (replies_from profile clients_max h ps)
  answered h [] = tt
  answered h (p ∷ ps) =
      let m = grown (after profile clients_max) h p in
      (record { seen = m; request = p.1; prefix = prefix_accepted m ps; answer = refl }, answered m ps)

  pub held : (id : ℕ) (sent : List Message) (h : List Entry) (ps : List Pair) → NoneInvented id sent h → Each (λ (p : Pair). p.1.client ≡ id → IsAmong p.1 sent) ps → NoneInvented id sent (accepted profile clients_max h ps)
  held id sent h [] none each = none
  held id sent h (p ∷ ps) none each = held id sent (grown (after profile clients_max) h p) ps (by (is_entered (after profile clients_max h) p)) each.1
    where
      by : (b : Bool) → NoneInvented id sent (cond b (h ++ entry_of (after profile clients_max h) p ∷ []) h)
      by true = each_snoc (λ (e : Entry). e.request.client ≡ id → IsAmong e.request sent) h (entry_of (after profile clients_max h) p) none each.0
      by false = none

  legal_accepted : (h : List Entry) (ps : List Pair) → IsLegal profile clients_max h → AreLawful ps → IsLegal profile clients_max (accepted profile clients_max h ps)
  legal_accepted h [] legal lawful = legal
  legal_accepted h (p ∷ ps) legal lawful = legal_accepted (grown (after profile clients_max) h p) ps (legal_with_at profile clients_max None h p legal (λ _. lawful.0)) lawful.1

pub in_script : InScript
in_script profile clients_max id h ps sent returned legal lawful own none each taken among =
    in_history profile clients_max None id (accepted profile clients_max h ps) sent returned (legal_accepted profile clients_max h ps legal lawful) own (held profile clients_max id sent h ps none each) taken
    (each-map (λ (p : Message × Answer). IsAmong p.1 (replies_from profile clients_max h ps)) (λ (p : Message × Answer). IsAnswered (after profile clients_max) (accepted profile clients_max h ps) p.1) returned
    (λ p is. each_among (IsAnswered (after profile clients_max) (accepted profile clients_max h ps)) p.1 (replies_from profile clients_max h ps) (answered profile clients_max h ps) is) among)

-- several machines over one log

replies_join : (profile : Profile) (clients_max : ℕ) (h : List Entry) (ps qs : List Pair)
    → replies_from profile clients_max h (ps ++ qs) ≡ replies_from profile clients_max h ps ++ replies_from profile clients_max (accepted profile clients_max h ps) qs
replies_join profile clients_max h [] qs = refl
replies_join profile clients_max h (p ∷ ps) qs =
    let m = grown (after profile clients_max) h p in
    ap (λ l. answer_to (after profile clients_max m) p.1 ∷ l) (replies_join profile clients_max m ps qs)

from_log : (profile : Profile) (clients_max : ℕ) (h : List Entry) (log : List Pair) (a : Answer) → IsFromLog profile clients_max h log a → IsAmong a (replies_from profile clients_max h log)
from_log profile clients_max h log a is =
    subst (λ ps. IsAmong a (replies_from profile clients_max h ps)) is.prefix.1
    (subst (IsAmong a) (sym (replies_join profile clients_max h is.read is.prefix.0))
    (among_before a (replies_from profile clients_max h is.read) (replies_from profile clients_max (accepted profile clients_max h is.read) is.prefix.0) is.among))

pub in_log : InLog
in_log profile clients_max id h log sent returned legal lawful own none each taken among =
    in_script profile clients_max id h log sent returned legal lawful own none each taken
    (each-map (λ (p : Message × Answer). IsFromLog profile clients_max h log p.1) (λ (p : Message × Answer). IsAmong p.1 (replies_from profile clients_max h log)) returned (λ p is. from_log profile clients_max h log p.1 is) among)

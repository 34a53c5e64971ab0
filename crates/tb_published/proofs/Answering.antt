-- What a class says of the answer after a legal history.
use Rattle.std.proofs.Common.{◌≡◌, true, List, ◌∷◌, ◌++◌, append_assoc, Option, Some, None, refl, sym, ap, ◌∙◌, subst, Result, Ok, Err, MatchResult, IfOk, IsErrAnd, is_none}
use Rattle.tb_records.specs.declared.replies.Status.TheVariants as status
use Rattle.tb_records.specs.Messages.{Message, Answer, IsLawful, is_register}
use Rattle.tb_sessions.specs.declared.rows.Row.{Row}
use Rattle.tb_sessions.specs.declared.classes.Class.{Class}
use Rattle.tb_sessions.specs.declared.classes.Class.TheVariants.{New, Repeat, NoSession, SessionTooLow, NewerSession, Older, Collision, NewerRequest}
use Rattle.tb_sessions.specs.Judged.{row_of, class_of}
use Rattle.tb_machine.specs.declared.entries.Entry.{Entry}
use Rattle.tb_machine.specs.Histories.{answer_by, answer_to, status_of}
use Rattle.tb_machine.proofs.Rows.{row_found}
use Rattle.tb_machine.proofs.Judging.{repeat_by}
use Rattle.tb_machine.proofs.Reached.{Stands, reached}
use Rattle.tb_machine.proofs.RepeatLaws.{answers, new_again}
use Rattle.tb_published.specs.Openings.{Opening, LegalIn, IsAnswerIn, after_in}
use Rattle.tb_published.specs.SeenLaws.{NeverNotYet}

-- a row keeps a reply, so the answer to a repeat has that status, and any other the status of its class
status_by : (class : Class) (o : Option Row) (r : Message) → (class ≡ Repeat → (row : Row) × (o ≡ Some row) × (row.reply.status ≡ status.Reply)) → status_of class ≡ (answer_by class o r).status
status_by Repeat o r kept =
    let row = kept refl in
    sym row.2 ∙ ap (λ (o : Option Row). (answer_by Repeat o r).status) (sym row.1)
status_by New o r kept = refl
status_by NoSession o r kept = refl
status_by SessionTooLow o r kept = refl
status_by NewerSession o r kept = refl
status_by Older o r kept = refl
status_by Collision o r kept = refl
status_by NewerRequest o r kept = refl

pub status_is : (o : Opening) (h : List Entry) (r : Message) → LegalIn o h → status_of (class_of (after_in o h).rows r) ≡ (answer_to (after_in o h) r).status
status_is o h r legal = status_by (class_of (after_in o h).rows r) (row_of (after_in o h).rows r.client) r kept
  where
    kept : class_of (after_in o h).rows r ≡ Repeat → (row : Row) × (row_of (after_in o h).rows r.client ≡ Some row) × (row.reply.status ≡ status.Reply)
    kept class =
        let by = repeat_by (row_of (after_in o h).rows r.client) r class in
        let found = row_found (Stands o.profile o.clients_max h) (after_in o h).rows r.client by.0 (reached o.profile o.clients_max h legal).stands by.1 in
        (by.0, by.1, ap (λ (row : Row). row.reply.status) found.0.is)

-- an answer to a lawful request names the entry that holds it
pub answers_ok : {E : Type 0} (o : Opening) (h : List Entry) (r : Message) (result : Result Answer E) → LegalIn o h → IsLawful r
    → IfOk result (λ (a : Answer). a ≡ answer_to (after_in o h) r) → IfOk result (λ (a : Answer). LegalIn o h × IsAnswerIn o h r a)
answers_ok o h r (Ok a) legal lawful is = (legal, answers o.profile o.clients_max h r a legal (ap is_none lawful) is)
answers_ok o h r (Err e) legal lawful is = tt

-- what holds of a value still holds of it when an error is given another name
pub renamed : {A E F : Type 0} (r : Result A E) (s : Result A F) (P : A → Type 0) (Q : E → F → Type 0) → MatchResult r (λ x. s ≡ Ok x) (λ e. IsErrAnd s (Q e)) → IfOk r P → IfOk s P
renamed {A} {E} {F} (Ok x) s P Q is holds = subst (λ (t : Result A F). IfOk t P) (sym is) holds
renamed (Err e) (Ok x) P Q is holds = absurd is
renamed (Err e) (Err f) P Q is holds = tt

-- the status is NotYet only for a new request
new_of : (class : Class) → status_of class ≡ status.NotYet → class ≡ New
new_of New is = refl
new_of Repeat is = absurd cc
new_of NoSession is = absurd cc
new_of SessionTooLow is = absurd cc
new_of NewerSession is = absurd cc
new_of Older is = absurd cc
new_of Collision is = absurd cc
new_of NewerRequest is = absurd cc

pub never_not_yet : NeverNotYet
never_not_yet o h m r has seen legal not_yet =
    let whole : m ≡ has.front ++ has.entry ∷ (has.rest ++ seen.0) = sym seen.1 ∙ (ap (λ (l : List Entry). l ++ seen.0) has.whole ∙ append_assoc has.front (has.entry ∷ has.rest) seen.0) in
    let class : class_of (after_in o m).rows r ≡ New = new_of (class_of (after_in o m).rows r) (status_is o m r legal ∙ not_yet) in
    let again = new_again o.profile o.clients_max has.front has.entry (has.rest ++ seen.0) (subst (LegalIn o) whole legal)
    (subst (λ (l : List Entry). class_of (after_in o l).rows has.entry.request ≡ New) whole (subst (λ (s : Message). class_of (after_in o m).rows s ≡ New) (sym has.request) class)) in
    subst (λ (s : Message). (is_register s.body ≡ true) × (row_of (after_in o m).rows s.client ≡ None)) has.request
    (subst (λ (l : List Entry). (is_register has.entry.request.body ≡ true) × (row_of (after_in o l).rows has.entry.request.client ≡ None)) (sym whole) again)

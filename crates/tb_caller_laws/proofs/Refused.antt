-- The answers that end a session: refusals of the request, and never for a newer session after the register.
use Rattle.std.proofs.Common.{◌≡◌, ◌≢◌, ◌<◌, ◌&&◌, ◌||◌, ◌==◌, Bool, true, false, cond, List, [], ◌∷◌, Option, Some, None, refl, sym, ap, ◌∙◌, subst, arith, eqb, eqb-true, ltb, ltb-true, append_assoc, ◌+◌}
use Rattle.tb_records.specs.declared.replies.Status.TheVariants as status
use Rattle.tb_records.specs.Messages.{Message, Answer, operation, is_register}
use Rattle.tb_records.specs.Ordered.{Each}
use Rattle.tb_records.specs.Same.{same_body}
use Rattle.tb_sessions.specs.declared.rows.Row.{Row}
use Rattle.tb_sessions.specs.declared.classes.Class.{Class}
use Rattle.tb_sessions.specs.declared.classes.Class.TheVariants.{New, Repeat, NoSession, SessionTooLow, NewerSession, Older, Collision, NewerRequest}
use Rattle.tb_sessions.specs.Judged.{row_of, class_of}
use Rattle.tb_sessions.proofs.ByRow.{class_by}
use Rattle.tb_machine.specs.declared.entries.Entry.{Entry}
use Rattle.tb_machine.specs.Histories.{State, IsLegal, answer_by, answer_to}
use Rattle.tb_machine.specs.MarkedLaws.{next_in}
use Rattle.tb_machine.proofs.Rows.{row_found}
use Rattle.tb_machine.proofs.LawProofs.{each_mid}
use Rattle.tb_machine.proofs.MarkLeads.{reached_with}
use Rattle.tb_machine.proofs.ReachedBy.{Before, StandsBy, ReachedBy, session_register}
use Rattle.tb_machine.proofs.Judging.{both_of}
use Rattle.tb_machine.proofs.Legal.{legal_front}
use Rattle.tb_file.specs.Keeping.{History, history_state}
use Rattle.tb_caller.specs.declared.callers.Heard.TheVariants as hearing
use Rattle.tb_caller.specs.Clients.{names, heard_by}
use Rattle.tb_caller.specs.Calls.{IsCall}
use Rattle.tb_caller_laws.proofs.Acknowledged.{GoesOn, HasRegister}

-- a refusal has the numbers of the request
pub record IsRefusal (a : Answer) (r : Message) : Type 0 where
  pub client : a.client ≡ r.client
  pub session : a.session ≡ r.session
  pub operation_is : a.operation ≡ operation r.body

-- a reply that names a call has its session
pub session_named : (r : Message) (a : Answer) → IsCall r → names r a ≡ true → a.session ≡ r.session
session_named r a call named =
    by (is_register r.body) call (both_of (a.client == r.client && a.request == r.request && a.operation == operation r.body) (is_register r.body || a.session == r.session) named).1
  where
    by : (b : Bool) → b ≡ false → (b || a.session == r.session) ≡ true → a.session ≡ r.session
    by true call e = absurd cc
    by false call e = eqb-true a.session r.session e

newer_row : (register first low newer older same other next : Bool)
    → cond register (cond first Repeat Older) (cond low SessionTooLow (cond newer NewerSession (cond older Older (cond same Repeat (cond other Collision (cond next New NewerRequest)))))) ≡ NewerSession
    → newer ≡ true
newer_row register first low true older same other next e = refl
newer_row true true low false older same other next e = absurd cc
newer_row true false low false older same other next e = absurd cc
newer_row false first true false older same other next e = absurd cc
newer_row false first false false true same other next e = absurd cc
newer_row false first false false false true other next e = absurd cc
newer_row false first false false false false true next e = absurd cc
newer_row false first false false false false false true e = absurd cc
newer_row false first false false false false false false e = absurd cc

newer_by : (o : Option Row) (r : Message) → class_by o r ≡ NewerSession → (row : Row) × (o ≡ Some row) × (row.session < r.session)
newer_by None r e = absurd (by (is_register r.body) e)
  where
    by : (b : Bool) → cond b New NoSession ≡ NewerSession → ⊥
    by true e = cc
    by false e = cc
newer_by (Some row) r e = (
  row,
  refl,
  ltb-true row.session r.session
      (newer_row (is_register r.body) (eqb row.request.request 0) (ltb r.session row.session) (ltb row.session r.session) (ltb r.request row.request.request)
      (eqb r.request row.request.request && same_body r.body row.request.body) (eqb r.request row.request.request) (eqb r.request (row.request.request + 1)) e),
)

pub legal_begins : (m h : History) → GoesOn m h → IsLegal h.profile h.clients_max h.entries → IsLegal m.profile m.clients_max m.entries
legal_begins m h on legal = legal_front m.profile m.clients_max m.entries on.more (subst (λ (k : History). IsLegal k.profile k.clients_max k.entries) (sym on.is) legal)

module _ (m : History) (r : Message) (legal : IsLegal m.profile m.clients_max m.entries) where
  abbrev N : List Entry → State
  N = next_in m.profile m.clients_max None

  abbrev S : State
  S = history_state m

  reached : ReachedBy N m.entries
  reached = reached_with m.profile m.clients_max None m.entries legal

  stored_status : (row : Row) → row_of S.rows r.client ≡ Some row → row.reply.status ≡ status.Reply
  stored_status row found = ap (λ (row : Row). row.reply.status) (row_found (StandsBy N m.entries) S.rows r.client row reached.stands found).0.is

  pub refused : heard_by (answer_to S r).status ≡ hearing.Ended → IsRefusal (answer_to S r) r
  refused ends = by (class_of S.rows r) (row_of S.rows r.client) refl ends
    where
      by : (class : Class) (o : Option Row) → row_of S.rows r.client ≡ o → heard_by (answer_by class o r).status ≡ hearing.Ended → IsRefusal (answer_by class o r) r
      by Repeat (Some row) found e = absurd (let two : hearing.Returned ≡ hearing.Ended = sym (ap heard_by (stored_status row found)) ∙ e in cc)
      by Repeat None found e = record { client = refl; session = refl; operation_is = refl }
      by New o found e = record { client = refl; session = refl; operation_is = refl }
      by NoSession o found e = record { client = refl; session = refl; operation_is = refl }
      by SessionTooLow o found e = record { client = refl; session = refl; operation_is = refl }
      by NewerSession o found e = record { client = refl; session = refl; operation_is = refl }
      by Older o found e = record { client = refl; session = refl; operation_is = refl }
      by Collision o found e = record { client = refl; session = refl; operation_is = refl }
      by NewerRequest o found e = record { client = refl; session = refl; operation_is = refl }

  newer_class : (answer_to S r).status ≡ status.NewerSession → class_of S.rows r ≡ NewerSession
  newer_class is = by (class_of S.rows r) (row_of S.rows r.client) refl is
    where
      by : (class : Class) (o : Option Row) → row_of S.rows r.client ≡ o → (answer_by class o r).status ≡ status.NewerSession → class ≡ NewerSession
      by NewerSession o found e = refl
      by Repeat (Some row) found e = absurd (let two : status.Reply ≡ status.NewerSession = sym (stored_status row found) ∙ e in cc)
      by Repeat None found e = absurd cc
      by New o found e = absurd cc
      by NoSession o found e = absurd cc
      by SessionTooLow o found e = absurd cc
      by Older o found e = absurd cc
      by Collision o found e = absurd cc
      by NewerRequest o found e = absurd cc

  -- the row of its client has the session or a later one
  pub not_newer : HasRegister m.entries r → (answer_to S r).status ≢ status.NewerSession
  not_newer has is =
      let found = newer_by (row_of S.rows r.client) r (newer_class is) in
      let row = found.0 in
      let its = row_found (λ (row : Row). Each (Before row) m.entries) S.rows r.client row reached.before found.1 in
      let before = each_mid (Before row) has.front has.register has.more (subst (Each (Before row)) (has.whole ∙ append_assoc has.front (has.register ∷ []) has.more) its.0) (has.client ∙ sym its.1) in
      omega (arith, found.2, before.session, session_register has.register has.is_one, has.session)

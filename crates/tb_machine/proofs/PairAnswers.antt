-- One pair: what its entry leaves for its request, and the answers that the rows give.
use Rattle.std.proofs.Common.{◌≡◌, ◌≢◌, ◌⊎◌, inl, inr, ℕ, ◌+◌, Bool, true, false, cond, ◌&&◌, ◌==◌, List, is_some, Option, Some, None, Result, Ok, Err, OnOk, refl, sym, ap, ◌∙◌, subst, arith, eqb, ltb, eq-eqb}
use Rattle.std.proofs.lemmas.Bool.Decides.{nat_tests}
use Rattle.tb_records.specs.Messages.{Message, Answer, is_register, status_code, IsLawful}
use Rattle.tb_records.specs.Same.{same_body}
use Rattle.tb_records.proofs.OneBody.{body_same}
use Rattle.tb_records.specs.Ordered.{put, replaced}
use Rattle.tb_sessions.specs.declared.rows.Row.{Row}
use Rattle.tb_sessions.specs.declared.classes.Class.{Class}
use Rattle.tb_sessions.specs.declared.classes.Class.TheVariants.{New, Repeat, SessionTooLow, NewerSession, Older, Collision, NewerRequest}
use Rattle.tb_sessions.specs.Judged.{row_of, class_beside, class_of, client_of}
use Rattle.tb_sessions.specs.Admission.{driven_out, without, admitted}
use Rattle.tb_sessions.proofs.ByRow.{class_by}
use Rattle.tb_machine.specs.declared.entries.Entry.{Entry}
use Rattle.tb_machine.specs.Histories.{State, is_new, session_of, row_at, reply_at, step, status_of, refusal, answer_by, answer_to}
use Rattle.tb_machine.specs.Scripts.{Pair, entry_of, has_time, after_pair}
use Rattle.tb_records.specs.ReplyFrames.{reply_bytes, IsReply}
use Rattle.tb_records.specs.Transport.{Output, Sent, CutOff}
use Rattle.tb_machine.specs.declared.serving.RunFault.{RunFault}
use Rattle.tb_machine.specs.Runs.{is_new_in, AnswersPair}
use Rattle.tb_machine.specs.private.Serving.{Delivers}
use Rattle.tb_records.proofs.ByKey.{find-put_here, find-replaced_here}
use Rattle.tb_machine.proofs.Lawful.{lawful_numbers}
use Rattle.tb_machine.proofs.Rows.{still_absent}

-- the row that was admitted is found

row_admitted : (clients_max : ℕ) (rows : List Row) (row : Row) → row_of (admitted clients_max rows row) (client_of row) ≡ Some row
row_admitted clients_max rows row = by (row_of rows (client_of row)) refl
  where
    by : (o : Option Row) → row_of rows (client_of row) ≡ o → row_of (cond (is_some o) (replaced client_of row rows) (put client_of row (without (driven_out clients_max rows) rows))) (client_of row) ≡ Some row
    by (Some old) is = find-replaced_here client_of row old rows is
    by None is = find-put_here client_of (λ other. client_of other == client_of row) row (without (driven_out clients_max rows) rows) (eq-eqb (client_of row) (client_of row) refl) (still_absent (driven_out clients_max rows) rows (client_of row) is)

-- the state after an entry has the row that the entry made
pub row_after : (S : State) (e : Entry) → row_of (step S e).rows e.request.client ≡ Some (row_at S e)
row_after S e = row_admitted S.clients_max S.rows (row_at S e)

-- its request is a repeat from then on

by_lines_repeat : (register first low newer older same other next : Bool)
    → (register ≡ true → first ≡ true) → (register ≡ false → (low ≡ false) × (newer ≡ false) × (older ≡ false) × (same ≡ true))
    → cond register (cond first Repeat Older) (cond low SessionTooLow (cond newer NewerSession (cond older Older (cond same Repeat (cond other Collision (cond next New NewerRequest)))))) ≡ Repeat
by_lines_repeat true true low newer older same other next one all = refl
by_lines_repeat true false low newer older same other next one all = let e : false ≡ true = one refl in absurd cc
by_lines_repeat false first true newer older same other next one all = let e = (all refl).0 in absurd cc
by_lines_repeat false first false true older same other next one all = let e = (all refl).1 in absurd cc
by_lines_repeat false first false false true same other next one all = let e = (all refl).2 in absurd cc
by_lines_repeat false first false false false false other next one all = let e = (all refl).3 in absurd cc
by_lines_repeat false first false false false true other next one all = refl

repeats_after : (S : State) (e : Entry) → IsLawful e.request → class_beside (row_at S e) e.request ≡ Repeat
repeats_after S e lawful =
    by_lines_repeat (is_register e.request.body) (eqb e.request.request 0) (ltb e.request.session (session_of e)) (ltb (session_of e) e.request.session) (ltb e.request.request e.request.request)
    (eqb e.request.request e.request.request && same_body e.request.body e.request.body) (eqb e.request.request e.request.request) (eqb e.request.request (e.request.request + 1))
    (λ is. eq-eqb e.request.request 0 ((lawful_numbers e.request lawful).register is))
    (λ is. let same : session_of e ≡ e.request.session = ap (λ b. cond b e.commit e.request.session) is in
    (grind (arith, nat_tests), grind (arith, nat_tests), grind (arith, nat_tests), ap (λ b. b && same_body e.request.body e.request.body) (eq-eqb e.request.request e.request.request refl) ∙ body_same e.request.body))

answer_stored : (o : Option Row) (r : Message) (row : Row) → o ≡ Some row → class_beside row r ≡ Repeat → answer_by (class_by o r) o r ≡ row.reply
answer_stored o r row is repeats = subst (λ (o : Option Row). answer_by (class_by o r) o r ≡ row.reply) (sym is) (ap (λ class. answer_by class (Some row) r) repeats)

-- once it is entered, the answer to a request is the reply of its entry
pub answer_after : (S : State) (e : Entry) → IsLawful e.request → answer_to (step S e) e.request ≡ reply_at S e
answer_after S e lawful = answer_stored (row_of (step S e).rows e.request.client) e.request (row_at S e) (row_after S e) (repeats_after S e lawful)

-- a request that is neither new nor a repeat is refused
pub answer_refused : (class : Class) (o : Option Row) (r : Message) → class ≢ Repeat → answer_by class o r ≡ refusal (status_of class) r
answer_refused Repeat o r other = absurd (other refl)
answer_refused class o r other = refl

-- a request is a repeat, or it is refused
pub repeated_or_not : (class : Class) → (class ≡ Repeat) ⊎ ((class ≢ Repeat) × (eqb (status_code (status_of class)) 0 ≡ false))
repeated_or_not Repeat = inl refl
repeated_or_not class = inr (λ same. cc, refl)

-- the state after a pair

pub after_new : (S : State) (p : Pair) → is_new_in S p ≡ true → has_time S p ≡ true → after_pair S p ≡ step S (entry_of S p)
after_new S p new time = ap (λ b. cond b (step S (entry_of S p)) S) (ap (λ b. b && has_time S p) new ∙ time)

pub after_known : (S : State) (p : Pair) → is_new_in S p ≡ false → after_pair S p ≡ S
after_known S p known = ap (λ b. cond b (step S (entry_of S p)) S) (ap (λ b. b && has_time S p) known)

-- what a call returns

pub refused : (S : State) (r : Message) (class : Class) (a : Answer) → class ≡ class_of S.rows r → class ≢ Repeat → a ≡ refusal (status_of class) r → answer_to S r ≡ a
refused S r class a is other told = ap (λ (c : Class). answer_by c (row_of S.rows r.client) r) (sym is) ∙ answer_refused class (row_of S.rows r.client) r other ∙ sym told

-- a new pair whose entry is entered, and whose reply is written
pub entered_answer : (result : Result (Unit {0}) RunFault) (S T : State) (p : Pair) (before after : Output)
    → IsLawful p.1 → class_of S.rows p.1 ≡ New → has_time S p ≡ true → T ≡ step S (entry_of S p)
    → Delivers result (reply_bytes (reply_at S (entry_of S p))) before after → OnOk result (IsReply (reply_at S (entry_of S p)))
    → AnswersPair result S T p before after
entered_answer result S T p before after lawful class time entered sent fits = by result sent fits
  where
    new : is_new_in S p ≡ true
    new = ap is_new class

    answer_is : answer_to (after_pair S p) p.1 ≡ reply_at S (entry_of S p)
    answer_is = ap (λ (U : State). answer_to U p.1) (after_new S p new time) ∙ answer_after S (entry_of S p) lawful

    by : (result : Result (Unit {0}) RunFault)
        → Delivers result (reply_bytes (reply_at S (entry_of S p))) before after → OnOk result (IsReply (reply_at S (entry_of S p)))
        → AnswersPair result S T p before after
    by (Ok done) sent fits = ((λ _. time), entered ∙ sym (after_new S p new time), subst (λ (b : Answer). Sent (reply_bytes b) before after) (sym answer_is) sent, subst IsReply (sym answer_is) fits)
    by (Err f) sent fits = subst (λ (f : RunFault). AnswersPair (Err f) S T p before after) (sym sent.0)
        ((λ _. time), entered ∙ sym (after_new S p new time), refl, subst (λ (b : Answer). CutOff (reply_bytes b) before after) (sym answer_is) sent.1)

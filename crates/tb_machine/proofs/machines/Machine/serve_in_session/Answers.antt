use Rattle.std.proofs.Common.{rules, ◌≡◌, ◌+◌, OnOk, OnErr, Ok, Err, sym, ap, subst, arith}
use Rattle.std.proofs.lemmas.Result.{IfOk-at_ok, IfErr-at_err}
use Rattle.tb_records.specs.Messages.{Message, count}
use Rattle.tb_machine.specs.Histories.{State, is_new, executed, time_of}
use Rattle.tb_machine.specs.private.Serving.{made_entry, row_in, MayBeExecuted, DeliversReply}
use Rattle.tb_machine.specs.private.Sound.{IsSound}
use Rattle.tb_machine.proofs.InSession.{class_new, may_be, timely, same_state, renewed, rows_same, sound_after, serves}
use Rattle.tb_machine.proofs.machines.Machine.serve_in_session.Goals as goal

pub renew_with-served-requires-clause-callable : goal.renew_with-served-requires-clause-callable
renew_with-served-requires-clause-callable g c = λ row new x y xs ys.
    let S : State = record { clients_max = c.self.inside.sessions.clients_max; commit = c.self.inside.commit; books = c.self.inside.ledger; rows = c.self.inside.sessions.rows } in
    let r = c.args.request.now in
    let time = c.in-Some.time in
    let time_is : time ≡ time_of S c.args.moment r = omega (arith, c.in-Some.ensures.0, c.event_count-events.ensures, ap count c.body.ensures.value, ap (λ (T : State). T.books.time) c.self.view_is) in
    let all : MayBeExecuted c.self.inside.ledger (made_entry (c.self.inside.commit + 1) time x.now) =
    subst (λ (q : Message). MayBeExecuted c.self.inside.ledger (made_entry (c.self.inside.commit + 1) time q)) (sym xs) (may_be S c.self.invariant c.args.moment time r c.body.ensures.lawful time_is c.in-Some.ensures.1 row new) in
    search rules

pub renew_with-served-requires-clause-renews : goal.renew_with-served-requires-clause-renews
renew_with-served-requires-clause-renews g c = λ row answer f' r' left new serves.
    let S : State = record { clients_max = c.self.inside.sessions.clients_max; commit = c.self.inside.commit; books = c.self.inside.ledger; rows = c.self.inside.sessions.rows } in
    let r = c.args.request.now in
    let time = c.in-Some.time in
    let time_is : time ≡ time_of S c.args.moment r = omega (arith, c.in-Some.ensures.0, c.event_count-events.ensures, ap count c.body.ensures.value, ap (λ (T : State). T.books.time) c.self.view_is) in
    let called = serves.called in
    let is : OnOk answer (left ≡ row_in c.self.inside.ledger (made_entry (c.self.inside.commit + 1) time r)) = search rules in
    let same : OnErr answer (left ≡ row) = search rules in
    renewed S c.self.invariant c.args.moment time r c.body.ensures.lawful time_is c.in-Some.ensures.1 row new left answer is same

pub invariant_of-self : goal.invariant_of-self
invariant_of-self g c =
    let S : State = record { clients_max = c.self.inside.sessions.clients_max; commit = c.self.inside.commit; books = c.self.inside.ledger; rows = c.self.inside.sessions.rows } in
    let r = c.args.request.now in
    let time = c.in-Some.time in
    let time_is : time ≡ time_of S c.args.moment r = omega (arith, c.in-Some.ensures.0, c.event_count-events.ensures, ap count c.body.ensures.value, ap (λ (T : State). T.books.time) c.self.view_is) in
    let answer_is : c.in-Ok-Ok.field-0 ≡ Ok c.in-Ok-Ok.delivery = rw c.in-Ok-Ok.is at c.in-Ok-Ok.field-0-is in
    let sv = IfOk-at_ok _ c.in-Ok-Ok.is c.renew_with-served.ensures.served in
    let called = sv.served.called in
    let books : OnOk c.in-Ok-Ok.field-0 (c.renew_with-served.new.serve.1.now ≡ executed c.self.inside.ledger r.body time) = search rules in
    let is : OnOk c.in-Ok-Ok.field-0 (sv.left ≡ row_in c.self.inside.ledger (made_entry (c.self.inside.commit + 1) time r)) = search rules in
    sound_after S c.self.invariant c.args.moment time r c.body.ensures.lawful time_is c.in-Some.ensures.1 sv.row sv.new sv.left c.renew_with-served.new.self.clients_max c.renew_with-served.new.serve.1.now c.renew_with-served.new.self.rows c.renew_with-served.ensures.same_size (IfOk-at_ok _ answer_is books) (IfOk-at_ok _ answer_is is) sv.put

pub invariant_of-self-in-Ok-Err : goal.invariant_of-self-in-Ok-Err
invariant_of-self-in-Ok-Err g c =
    let S : State = record { clients_max = c.self.inside.sessions.clients_max; commit = c.self.inside.commit; books = c.self.inside.ledger; rows = c.self.inside.sessions.rows } in
    let r = c.args.request.now in
    let time = c.in-Some.time in
    let time_is : time ≡ time_of S c.args.moment r = omega (arith, c.in-Some.ensures.0, c.event_count-events.ensures, ap count c.body.ensures.value, ap (λ (T : State). T.books.time) c.self.view_is) in
    let answer_is : c.in-Ok-Err.field-0 ≡ Err c.in-Ok-Err.field-0-0 = rw c.in-Ok-Err.is at c.in-Ok-Err.field-0-is in
    let sv = IfOk-at_ok _ c.in-Ok-Err.is c.renew_with-served.ensures.served in
    let called = sv.served.called in
    let books : OnErr c.in-Ok-Err.field-0 (c.renew_with-served.new.serve.1.now ≡ c.self.inside.ledger) = search rules in
    let kept : OnErr c.in-Ok-Err.field-0 (sv.left ≡ sv.row) = search rules in
    let same = same_state S c.renew_with-served.new.self.clients_max c.renew_with-served.new.serve.1.now c.renew_with-served.new.self.rows c.renew_with-served.ensures.same_size (IfErr-at_err _ answer_is books)
    (rows_same S c.self.invariant c.args.moment time r c.body.ensures.lawful time_is c.in-Some.ensures.1 sv.row sv.new sv.left c.renew_with-served.new.self.rows sv.put (IfErr-at_err _ answer_is kept)) in
    subst IsSound (sym same) c.self.invariant

pub returns-in-Ok-Ok-clause-served : goal.returns-in-Ok-Ok-clause-served
returns-in-Ok-Ok-clause-served g c =
    let S : State = record { clients_max = c.self.inside.sessions.clients_max; commit = c.self.inside.commit; books = c.self.inside.ledger; rows = c.self.inside.sessions.rows } in
    let r = c.args.request.now in
    let time = c.in-Some.time in
    let time_is : time ≡ time_of S c.args.moment r = omega (arith, c.in-Some.ensures.0, c.event_count-events.ensures, ap count c.body.ensures.value, ap (λ (T : State). T.books.time) c.self.view_is) in
    let answer_is : c.in-Ok-Ok.field-0 ≡ Ok c.in-Ok-Ok.delivery = rw c.in-Ok-Ok.is at c.in-Ok-Ok.field-0-is in
    let sv = IfOk-at_ok _ c.in-Ok-Ok.is c.renew_with-served.ensures.served in
    let called = sv.served.called in
    let books : OnOk c.in-Ok-Ok.field-0 (c.renew_with-served.new.serve.1.now ≡ executed c.self.inside.ledger r.body time) = search rules in
    let is : OnOk c.in-Ok-Ok.field-0 (sv.left ≡ row_in c.self.inside.ledger (made_entry (c.self.inside.commit + 1) time r)) = search rules in
    let delivers : DeliversReply c.in-Ok-Ok.field-0 (row_in c.self.inside.ledger (made_entry (c.self.inside.commit + 1) time r)).reply (g.W.Sink.output c.args.writer.now) (g.W.Sink.output c.writer-1.given.0) = search rules in
    rw (← c.self.view_is) (serves S c.self.invariant c.args.moment time r c.body.ensures.lawful time_is c.in-Some.ensures.1 sv.row sv.new sv.left c.renew_with-served.new.self.clients_max c.renew_with-served.new.serve.1.now c.renew_with-served.new.self.rows c.renew_with-served.ensures.same_size (IfOk-at_ok _ answer_is books) (IfOk-at_ok _ answer_is is) sv.put c.in-Ok-Ok.delivery _ _ (rw answer_is at delivers))

pub returns-in-Ok-Err-clause-served : goal.returns-in-Ok-Err-clause-served
returns-in-Ok-Err-clause-served g c =
    let S : State = record { clients_max = c.self.inside.sessions.clients_max; commit = c.self.inside.commit; books = c.self.inside.ledger; rows = c.self.inside.sessions.rows } in
    let r = c.args.request.now in
    let time = c.in-Some.time in
    let time_is : time ≡ time_of S c.args.moment r = omega (arith, c.in-Some.ensures.0, c.event_count-events.ensures, ap count c.body.ensures.value, ap (λ (T : State). T.books.time) c.self.view_is) in
    let answer_is : c.in-Ok-Err.field-0 ≡ Err c.in-Ok-Err.field-0-0 = rw c.in-Ok-Err.is at c.in-Ok-Err.field-0-is in
    let sv = IfOk-at_ok _ c.in-Ok-Err.is c.renew_with-served.ensures.served in
    let called = sv.served.called in
    let books : OnErr c.in-Ok-Err.field-0 (c.renew_with-served.new.serve.1.now ≡ c.self.inside.ledger) = search rules in
    let kept : OnErr c.in-Ok-Err.field-0 (sv.left ≡ sv.row) = search rules in
    let same = same_state S c.renew_with-served.new.self.clients_max c.renew_with-served.new.serve.1.now c.renew_with-served.new.self.rows c.renew_with-served.ensures.same_size (IfErr-at_err _ answer_is books)
    (rows_same S c.self.invariant c.args.moment time r c.body.ensures.lawful time_is c.in-Some.ensures.1 sv.row sv.new sv.left c.renew_with-served.new.self.rows sv.put (IfErr-at_err _ answer_is kept)) in
    let unsent : OnErr c.in-Ok-Err.field-0 (c.writer-1.given.0 ≡ c.args.writer.now) = search rules in
    rw (← c.self.view_is) (ap is_new (class_new S c.self.invariant c.args.moment time r c.body.ensures.lawful time_is c.in-Some.ensures.1 sv.row sv.new), timely S c.self.invariant c.args.moment time r c.body.ensures.lawful time_is c.in-Some.ensures.1 sv.row sv.new, same, ap g.W.Sink.output (IfErr-at_err _ answer_is unsent))

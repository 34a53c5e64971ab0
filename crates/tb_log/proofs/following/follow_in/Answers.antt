use Rattle.std.proofs.lemmas.Result.{err_from_is_err_and}
use Rattle.tb_log.proofs.Items.{working_passed, working_on, worked_into, worked_out, followed_nowhere}
use Rattle.tb_log.proofs.following.follow_in.Goals as goal

pub returns-in_err-follower-clause-followed : goal.returns-in_err-follower-clause-followed
returns-in_err-follower-clause-followed g c =
    let p = err_from_is_err_and c.from_residual.result c.from_residual.ensures.1 in
    rw (p.1, p.2) (followed_nowhere c.args.profile c.args.clients_max (g.R.Source.input c.args.reader.now) (g.W.Sink.output c.args.writer.now))

pub loop-k-preserved : goal.loop-k-preserved
loop-k-preserved g c =
    working_on _ _ _ _ _ _ _ _ (working_passed _ _ _ _ _ _ _ _ c.loop-k.invariant _ c.pass_on_before_waiting.ensures) _ _ _
    (rw c.in-Ok-true.field-0-test at c.in-Ok-true.ensures)

pub returns-in-Err-clause-followed : goal.returns-in-Err-clause-followed
returns-in-Err-clause-followed g c =
    worked_into _ _ _ _ _ _ _ _ (working_passed _ _ _ _ _ _ _ _ c.loop-k.invariant _ c.pass_on_before_waiting.ensures) c.in-Err.fault _ _ c.in-Err.ensures

pub returns-in-Ok-false-clause-followed : goal.returns-in-Ok-false-clause-followed
returns-in-Ok-false-clause-followed g c =
    worked_out _ _ _ _ _ _ _ _ _ _ _ _ _ (working_passed _ _ _ _ _ _ _ _ c.loop-k.invariant _ c.pass_on_before_waiting.ensures)
    (rw c.in-Ok-false.field-0-test at c.in-Ok-false.ensures) c.position-position.ensures c.pass_on.ensures.sent

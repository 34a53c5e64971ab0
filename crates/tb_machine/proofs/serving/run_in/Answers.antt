use Rattle.std.proofs.lemmas.Result.{err_from_is_err_and}
use Rattle.tb_machine.proofs.Running.{working_passed, working_on, worked_out, worked_into, serving_none, serving_joins, ran_nowhere}
use Rattle.tb_machine.proofs.serving.run_in.Goals as goal

pub returns-in_err-machine-clause-ran : goal.returns-in_err-machine-clause-ran
returns-in_err-machine-clause-ran g c =
    let p = err_from_is_err_and c.from_residual.result c.from_residual.ensures.1 in
    rw (p.1, p.2) (ran_nowhere c.args.profile c.args.clients_max (g.R.Source.input c.args.reader.now) (g.W.Sink.output c.args.writer.now))

pub loop-k-init : goal.loop-k-init
loop-k-init g c = serving_none c.args.profile c.args.clients_max c.in_ok-machine.machine _ _ c.in_ok-machine.ensures

pub loop-k-preserved : goal.loop-k-preserved
loop-k-preserved g c =
    working_on (working_passed c.loop-k.invariant c.pass_on_before_waiting.ensures.sent)
    (serving_joins c.args.profile c.args.clients_max)
    (rw c.if-not-more.false at c.in-Ok.ensures)

pub returns-in-Err-clause-ran : goal.returns-in-Err-clause-ran
returns-in-Err-clause-ran g c = worked_into (working_passed c.loop-k.invariant c.pass_on_before_waiting.ensures.sent) c.in-Err.ensures

pub returns-then-not-more-clause-ran : goal.returns-then-not-more-clause-ran
returns-then-not-more-clause-ran g c =
    let so_far = working_passed c.loop-k.invariant c.pass_on_before_waiting.ensures.sent in
    worked_out so_far so_far.stands (rw c.if-not-more.true at c.in-Ok.ensures) c.pass_on.ensures.sent

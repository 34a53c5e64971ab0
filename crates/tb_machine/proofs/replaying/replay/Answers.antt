use Rattle.std.proofs.Common.{inr, arith}
use Rattle.std.proofs.lemmas.Result.{err_from_is_err_and}
use Rattle.tb_machine.proofs.Running.{working_passed, working_on, worked_commits, worked_into}
use Rattle.tb_machine.proofs.DumpReading.{replaying_none, replaying_joins, replay_nowhere, replay_bounded}
use Rattle.tb_machine.proofs.replaying.replay.Goals as goal

pub returns-in_err-machine-clause-ran : goal.returns-in_err-machine-clause-ran
returns-in_err-machine-clause-ran g c =
    let p = err_from_is_err_and c.from_residual-in_err-machine.result c.from_residual-in_err-machine.ensures.1 in
    rw (p.1, p.2) (inr (replay_nowhere c.in_ok-head.head (g.R.Source.input c.args.reader.now) (g.R.Source.input c.read_head_from.new.source) (g.W.Sink.output c.args.writer.now) c.in_ok-head.ensures.answer c.in_ok-head.ensures.counted))

pub loop-init : goal.loop-init
loop-init g c = replaying_none c.in_ok-head.head _ _ _ _ c.in_ok-machine.ensures c.in_ok-head.ensures.answer c.in_ok-head.ensures.counted

pub loop-preserved : goal.loop-preserved
loop-preserved g c = working_on (working_passed c.loop.invariant c.pass_on_before_item.ensures.sent) replaying_joins (rw c.if-not-more.false at c.in-Ok.ensures)

pub returns-then-not-more-clause-ran : goal.returns-then-not-more-clause-ran
returns-then-not-more-clause-ran g c =
    let so_far = working_passed c.loop.invariant c.pass_on_before_item.ensures.sent in
    worked_commits so_far so_far.stands.count c.commit-replies.ensures.value (rw c.if-not-more.true at c.in-Ok.ensures) c.pass_on.ensures.sent

pub returns-in-Err-clause-ran : goal.returns-in-Err-clause-ran
returns-in-Err-clause-ran g c = inr (worked_into (working_passed c.loop.invariant c.pass_on_before_item.ensures.sent) c.in-Err.ensures)

pub unreachable-requires : goal.unreachable-requires
unreachable-requires g c =
    let few = replay_bounded c.loop.counter c.commit-entries.result c.loop.machine _ _ _ _ c.loop.invariant c.commit-entries.ensures.value c.commit-entries.ensures.in_range in
    absurd (omega (arith, few, c.loop-test.false))

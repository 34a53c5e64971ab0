use Rattle.std.proofs.Common.{Err, inl, inr, refl, sym, subst, arith, ◌∙◌}
use Rattle.tb_machine.specs.declared.serving.RunFault.{RunFault}
use Rattle.tb_machine.specs.DumpRuns.{DumpRan}
use Rattle.tb_machine.proofs.Running.{working_passed, working_on, worked_commits, worked_into, worked_halted}
use Rattle.tb_machine.proofs.DumpWriting.{dumping_none, dumping_joins}
use Rattle.tb_machine.proofs.dumping.dump.Goals as goal

pub loop-init : goal.loop-init
loop-init g c = dumping_none c.args.clients_max c.args.at c.in_ok-machine.machine _ _ _ c.write_head.ensures.right c.in_ok-machine.ensures c.in-Ok.ensures.sent

pub loop-preserved : goal.loop-preserved
loop-preserved g c =
    working_on (working_passed c.loop.invariant c.pass_on_before_waiting.ensures.sent)
    (dumping_joins c.args.clients_max c.args.at)
    (rw c.if-not-more.false at c.in-Ok-dump_next.ensures)

pub returns-in-Err-dump_next-clause-ran : goal.returns-in-Err-dump_next-clause-ran
returns-in-Err-dump_next-clause-ran g c = inr (worked_into (working_passed c.loop.invariant c.pass_on_before_waiting.ensures.sent) c.in-Err-dump_next.ensures)

pub returns-clause-ran : goal.returns-clause-ran
returns-clause-ran g c = inr (worked_halted c.loop.invariant (c.loop.invariant.stands.0 ∙ omega (arith, c.loop-test.false, c.loop.auto.counter-end)))

pub returns-then-not-more-clause-ran : goal.returns-then-not-more-clause-ran
returns-then-not-more-clause-ran g c =
    let so_far = working_passed c.loop.invariant c.pass_on_before_waiting.ensures.sent in
    inr (worked_commits so_far so_far.stands.1.count c.commit-entries.ensures.value (rw c.if-not-more.true at c.in-Ok-dump_next.ensures) c.pass_on.ensures.sent)

pub returns-in-Err-clause-ran : goal.returns-in-Err-clause-ran
returns-in-Err-clause-ran g c =
    let start = g.W.Sink.output c.args.writer.now in
    let written = g.W.Sink.output c.write_head.new.writer in
    let input = g.R.Source.input c.args.reader.now in
    subst (λ (f : RunFault). DumpRan c.args.clients_max c.args.at (Err f) input input start written) (sym c.in-Err.ensures.sent.0) (inl (refl, refl {a = input}, c.in-Err.ensures.sent.1))

use Rattle.tb_machine.proofs.DumpReading.{Replaying}
use Rattle.tb_machine.proofs.replaying.replay.Given as goal

abbrev pub invariant-loop : goal.invariant-loop
invariant-loop g l =
    Replaying l.counter l.machine
    (g.R.Source.input l.fn.reader) (g.R.Source.input l.reader)
    (g.W.Sink.output l.fn.writer) (g.W.Sink.output l.writer)

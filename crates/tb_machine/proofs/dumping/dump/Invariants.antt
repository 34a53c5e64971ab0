use Rattle.tb_machine.proofs.DumpWriting.{Dumping}
use Rattle.tb_machine.proofs.dumping.dump.Given as goal

abbrev pub invariant-loop : goal.invariant-loop
invariant-loop g l =
    Dumping l.fn.clients_max l.at l.counter l.machine
    (g.R.Source.input l.initial.reader) (g.R.Source.input l.reader)
    (g.W.Sink.output l.fn.writer) (g.W.Sink.output l.writer)

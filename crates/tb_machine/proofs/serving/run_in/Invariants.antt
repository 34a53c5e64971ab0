use Rattle.tb_machine.proofs.Running.{Serving}
use Rattle.tb_machine.proofs.serving.run_in.Given as goal

abbrev pub invariant-loop-k : goal.invariant-loop-k
invariant-loop-k g l =
    Serving l.fn.profile l.fn.clients_max l.k l.machine
    (g.R.Source.input l.initial.reader) (g.R.Source.input l.reader)
    (g.W.Sink.output l.initial.writer) (g.W.Sink.output l.writer)

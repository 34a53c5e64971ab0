use Rattle.tb_log.proofs.Items.{Working}
use Rattle.tb_log.proofs.following.follow_in.Given as goal

abbrev pub invariant-loop-k : goal.invariant-loop-k
invariant-loop-k g l =
    Working l.fn.profile l.fn.clients_max l.k l.follower
    (g.R.Source.input l.initial.reader) (g.R.Source.input l.reader)
    (g.W.Sink.output l.initial.writer) (g.W.Sink.output l.writer)

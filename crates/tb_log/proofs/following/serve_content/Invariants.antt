use Rattle.tb_log.proofs.Serving.{Serving}
use Rattle.tb_log.proofs.following.serve_content.Given as goal

abbrev pub invariant-loop-index : goal.invariant-loop-index
invariant-loop-index g l =
    Serving l.index l.initial.follower l.follower l.fn.content l.source.inner.now
    (g.W.Sink.output l.initial.writer) (g.W.Sink.output l.writer)

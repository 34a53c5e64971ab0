use Rattle.tb_log.proofs.Pairs.{Checked}
use Rattle.tb_log.proofs.entries.check_pairs.Given as goal

abbrev pub invariant-loop-k : goal.invariant-loop-k
invariant-loop-k l = Checked l.k l.fn.content l.source.inner.now

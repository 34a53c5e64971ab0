use Rattle.std.proofs.Common.{◌≡◌, ◌++◌, length}
use Rattle.tb_sectors.specs.private.Latched.{latched_further}
use Rattle.tb_sectors.proofs.encoding.push_further.Given as goal

abbrev pub invariant-loop-rest : goal.invariant-loop-rest
invariant-loop-rest l = l.out.items ++ latched_further l.closed l.number l.rest ≡ l.fn.out.items ++ latched_further l.closed l.number l.fn.bytes

abbrev pub decreases-loop-rest : goal.decreases-loop-rest
decreases-loop-rest l = length l.rest

use Rattle.std.proofs.Common.{rules}
use Rattle.tb_published.proofs.replica.ReplicaAbsorbPosted.absorb_first.Goals as goal

pub invariant_of-self : goal.invariant_of-self
invariant_of-self g c = search rules

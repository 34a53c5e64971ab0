use Rattle.std.proofs.Common.{rules, arith}
use Rattle.std.proofs.lemmas.Grind.{common_steps}
use Rattle.tb_published.proofs.seat.Seat.learn.Goals as goal

pub invariant_of-self : goal.invariant_of-self
invariant_of-self g c = grind (arith, common_steps)

pub returns-clause-longer : goal.returns-clause-longer
returns-clause-longer g c = search rules

pub returns-clause-own : goal.returns-clause-own
returns-clause-own g c = search rules

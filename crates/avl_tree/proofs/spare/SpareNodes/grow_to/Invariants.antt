use Rattle.std.proofs.Common.{◌-◌, ◌≤◌, max}
use Rattle.avl_tree.proofs.spare.SpareNodes.grow_to.Given as goal

abbrev pub invariant-loop-self : goal.invariant-loop-self
invariant-loop-self g l = (l.initial.self ≤ l.self) × (l.self ≤ max l.initial.self l.n)

abbrev pub decreases-loop-self : goal.decreases-loop-self
decreases-loop-self g l = l.n - l.self

use Rattle.std.proofs.Common.{refl, arith}
use Rattle.std.specs.List.Sorted.{IsStrictlySortedBy}
use Rattle.avl_tree.proofs.map.AvlMap.new_in.Goals as goal

pub of-requires : goal.of-requires
unfolding IsStrictlySortedBy
of-requires g c = record { balanced = tt; sorted = tt; counted = refl; fits = omega (arith, c.new.ensures) }

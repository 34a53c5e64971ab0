use Rattle.std.proofs.Common.{refl, arith}
use Rattle.avl_tree.proofs.Shape.{entries_search_of}
use Rattle.avl_tree.proofs.MapInvariants.{low_height, whole_insert}
use Rattle.avl_tree.proofs.map.AvlMap.insert_reserved.Goals as goal

pub insert-requires-clause-height_fits : goal.insert-requires-clause-height_fits
insert-requires-clause-height_fits g c = omega (arith, low_height c.self.invariant)

pub invariant_of-self : goal.invariant_of-self
invariant_of-self g c =
    let e = entries_search_of c.self.inside.root in
    let absent = rw e at (rw (← c.self.view_is) at c.requires.absent) in
    let put = rw c.fill.ensures.value at c.insert.ensures.entries in
    (refl, tt, whole_insert c.self.invariant g.met.K.Ord.total c.args.key c.args.value absent c.insert.ensures.balanced put c.pop-node.ensures.one_less)

use Rattle.std.proofs.Common.{arith}
use Rattle.avl_tree.proofs.Shape.{entries_search_of, path-le-height, least-le-length}
use Rattle.avl_tree.proofs.MapInvariants.{low_height}
use Rattle.avl_tree.specs.Nodes.{stored_height}
use Rattle.avl_tree.proofs.map.AvlMap.probe.Goals as goal

pub count_visits-requires-clause-height_fits : goal.count_visits-requires-clause-height_fits
count_visits-requires-clause-height_fits g c = omega (arith, low_height c.self.invariant)

pub returns-clause-shallow : goal.returns-clause-shallow
returns-clause-shallow g c =
    let root = c.self.inside.root in
    let e = entries_search_of root in
    rw (← c.self.view_is, e) (stored_height root, rw c.count_visits.ensures.visits (path-le-height _ root c.self.invariant.balanced), least-le-length root c.self.invariant.balanced)

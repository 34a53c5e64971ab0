use Rattle.std.proofs.Common.{refl, arith}
use Rattle.avl_tree.specs.Nodes.{entry}
use Rattle.avl_tree.proofs.Shape.{entries_search_of}
use Rattle.avl_tree.proofs.MapInvariants.{low_height, whole_pop}
use Rattle.avl_tree.proofs.map.AvlMap.pop_first.Goals as goal

pub take_first-requires-clause-height_fits : goal.take_first-requires-clause-height_fits
take_first-requires-clause-height_fits g c = omega (arith, low_height c.self.invariant)

pub invariant_of-self-2 : goal.invariant_of-self-2
invariant_of-self-2 g c =
    let r = c.in_ok-node.ensures in
    (refl, tt, whole_pop c.self.invariant (entry c.in_ok-node.node.value) r.entries r.balanced c.retire.ensures.one_less c.retire.ensures.one_more)

pub returns-clause-pair : goal.returns-clause-pair
returns-clause-pair g c =
    let e = entries_search_of c.self.inside.root in
    let r = c.in_ok-node.ensures.entries in
    let p = c.retire.ensures.pair in
    rw (← c.self.view_is, e, r, p) refl

pub returns-clause-rest : goal.returns-clause-rest
returns-clause-rest g c =
    let e = entries_search_of c.self.inside.root in
    let n = entries_search_of c.take_first.new.tree in
    let p = c.retire.ensures.pair in
    rw (← c.self.view_is, e, n, p) c.in_ok-node.ensures.entries

pub returns-clause-ordered : goal.returns-clause-ordered
returns-clause-ordered g c =
    let e = entries_search_of c.self.inside.root in
    rw (← c.self.view_is, e) c.self.invariant.sorted

pub returns-in_err-node-clause-ordered : goal.returns-in_err-node-clause-ordered
returns-in_err-node-clause-ordered g c =
    let e = entries_search_of c.self.inside.root in
    rw (← c.self.view_is, e) c.self.invariant.sorted

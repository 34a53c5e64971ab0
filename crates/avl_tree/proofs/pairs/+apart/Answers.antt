use Rattle.std.proofs.Common.{◌+◌, ◌*◌, ◌<◌, ◌∙◌, sym, arith}
use Rattle.std.specs.Cmp.{Equal-is}
use Rattle.avl_tree.specs.Nodes.{stored_height}
use Rattle.avl_tree.specs.private.Sides.{side_of}
use Rattle.avl_tree.proofs.Steps.{goes, stands_here}
use Rattle.avl_tree.proofs.TwoInPlace.{apart_here, apart_side}
use Rattle.avl_tree.proofs.pairs.+apart.Goals as goal

pub apart-returns-then-is_eq-clause-changes : goal.apart-returns-then-is_eq-clause-changes
apart-returns-then-is_eq-clause-changes g t c =
    let here = (Equal-is c.compare-order.result).0 (sym c.is_eq.ensures ∙ c.if-is_eq.true) in
    let p = rw (c.deref.ensures, here) at c.compare-order.ensures in
    let w = stands_here g.met.K.Ord.total c.args.key.now c.in-Fork.is p c.requires.searched in
    let x = rw c.deref_mut.ensures.value at c.beside.ensures.changes in
    rw c.deref_mut.ensures.value (apart_here g.F.FnMut c.args.in_order c.args.f.now c.beside.new.f w (sym c.in-Fork.is) c.args.other_key.now c.args.other.now c.beside.new.out c.beside.new.held c.beside.new.tree x)

pub apart-apart_below-requires : goal.apart-apart_below-requires
apart-apart_below-requires g t c κs within =
    let p = rw c.deref.ensures at c.compare-order.ensures in
    let w = goes g.met.K.Ord.total c.args.key.now c.in-Fork.is _ p (sym c.is_eq.ensures ∙ c.if-is_eq.false) c.requires.searched in
    let lower : 2 * (stored_height c.args.other.now + stored_height (side_of c.compare-order.result c.in-Fork.node.value)) + 1 < t = omega (arith, c.decreases, w.lower) in
    rw (c.side.ensures.value, c.deref_mut-2.ensures.value) (lower, (within.0, (within.1.0, (within.1.1.0, (within.1.1.1.0, (within.1.1.1.1, (c.requires.other_searched, (w.searched, (c.requires.callable, c.requires.empty)))))))))

pub apart-returns-clause-changes : goal.apart-returns-clause-changes
apart-returns-clause-changes g t c =
    let p = rw c.deref.ensures at c.compare-order.ensures in
    let w = goes g.met.K.Ord.total c.args.key.now c.in-Fork.is _ p (sym c.is_eq.ensures ∙ c.if-is_eq.false) c.requires.searched in
    let x = rw (c.side.ensures.value, c.deref_mut-2.ensures.value) at c.apart_below.ensures.changes in
    rw c.deref_mut-2.ensures.value (apart_side g.F.FnMut c.args.in_order c.args.f.now c.apart_below.new.f w c.args.other_key.now c.args.other.now c.apart_below.new.out c.apart_below.new.last c.apart_below.new.next x)

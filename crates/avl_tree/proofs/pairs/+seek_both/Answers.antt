use Rattle.std.proofs.Common.{◌<◌, refl, ap, arith}
use Rattle.avl_tree.specs.Nodes.{stored_height}
use Rattle.avl_tree.proofs.Steps.{goes}
use Rattle.avl_tree.proofs.TwoInPlace.{higher, higher_here, both_side, both_apart, both_here_right, both_left_here}
use Rattle.avl_tree.proofs.pairs.+seek_both.Goals as goal

pub seek_both-requires : goal.seek_both-requires
seek_both-requires g t c κs within =
    let p = rw c.deref.ensures at c.in-Greater.ensures in
    let w = goes g.met.K.Ord.total c.args.low.now c.in-Fork.is _ p refl c.requires.searched in
    let lower : stored_height c.in-Fork.node.value.right < t = omega (arith, c.decreases, w.lower) in
    rw c.deref_mut.ensures.value (lower, (within.0, (within.1.0, (within.1.1.0, (within.1.1.1.0, (within.1.1.1.1, (w.searched, (c.requires.lower, (c.requires.callable, c.requires.empty)))))))))

pub seek_both-requires-in-Less-compare : goal.seek_both-requires-in-Less-compare
seek_both-requires-in-Less-compare g t c κs within =
    let p = rw c.deref.ensures at c.in-Less.ensures in
    let w = goes g.met.K.Ord.total c.args.low.now c.in-Fork.is _ p refl c.requires.searched in
    let lower : stored_height c.in-Fork.node.value.left < t = omega (arith, c.decreases, w.lower) in
    rw c.deref_mut-in-Less-compare.ensures.value (lower, (within.0, (within.1.0, (within.1.1.0, (within.1.1.1.0, (within.1.1.1.1, (w.searched, (c.requires.lower, (c.requires.callable, c.requires.empty)))))))))

pub beside_right-requires-clause-searched : goal.beside_right-requires-clause-searched
beside_right-requires-clause-searched g t c =
    let p = rw c.deref.ensures at c.in-Equal.ensures in
    let q = higher_here g.met.K.Ord.total c.args.low.now c.args.high.now c.in-Fork.node.value.key c.requires.lower p in
    rw c.deref_mut-in-Equal.ensures.value (goes g.met.K.Ord.total c.args.high.now c.in-Fork.is _ q refl c.requires.searched).searched

pub beside_left-requires-clause-searched : goal.beside_left-requires-clause-searched
beside_left-requires-clause-searched g t c =
    let p = rw c.deref.ensures at c.in-Less.ensures in
    rw c.deref_mut-in-Equal-compare.ensures.value (goes g.met.K.Ord.total c.args.low.now c.in-Fork.is _ p refl c.requires.searched).searched

pub apart_at-requires-clause-left : goal.apart_at-requires-clause-left
apart_at-requires-clause-left g t c =
    let p = rw c.deref.ensures at c.in-Less.ensures in
    rw c.deref_mut-in-Greater-compare.ensures.value (goes g.met.K.Ord.total c.args.low.now c.in-Fork.is _ p refl c.requires.searched).searched

pub apart_at-requires-clause-right : goal.apart_at-requires-clause-right
apart_at-requires-clause-right g t c =
    let q = rw c.deref-in-Less.ensures at c.in-Greater-compare.ensures in
    rw c.deref_mut-in-Greater-compare.ensures.value (goes g.met.K.Ord.total c.args.high.now c.in-Fork.is _ q refl c.requires.searched).searched

pub returns-in-Greater-clause-changes : goal.returns-in-Greater-clause-changes
returns-in-Greater-clause-changes g t c =
    let p = rw c.deref.ensures at c.in-Greater.ensures in
    let q = higher g.met.K.Ord.total c.args.low.now c.args.high.now c.in-Fork.node.value.key c.requires.lower p in
    let w = goes g.met.K.Ord.total c.args.low.now c.in-Fork.is _ p refl c.requires.searched in
    let v = goes g.met.K.Ord.total c.args.high.now c.in-Fork.is _ q refl c.requires.searched in
    let x = rw c.deref_mut.ensures.value at c.seek_both.ensures.changes in
    rw c.deref_mut.ensures.value (both_side g.F.FnMut c.args.in_order g.met.K.Ord.total c.args.low.now c.args.high.now _ _ w v c.seek_both.new.out _ x)

pub returns-in-Less-compare-clause-changes : goal.returns-in-Less-compare-clause-changes
returns-in-Less-compare-clause-changes g t c =
    let p = rw c.deref.ensures at c.in-Less.ensures in
    let q = rw c.deref-in-Less.ensures at c.in-Less-compare.ensures in
    let w = goes g.met.K.Ord.total c.args.low.now c.in-Fork.is _ p refl c.requires.searched in
    let v = goes g.met.K.Ord.total c.args.high.now c.in-Fork.is _ q refl c.requires.searched in
    let x = rw c.deref_mut-in-Less-compare.ensures.value at c.seek_both-in-Less-compare.ensures.changes in
    rw c.deref_mut-in-Less-compare.ensures.value (both_side g.F.FnMut c.args.in_order g.met.K.Ord.total c.args.low.now c.args.high.now _ _ w v c.seek_both-in-Less-compare.new.out _ x)

pub returns-in-Equal-clause-changes : goal.returns-in-Equal-clause-changes
returns-in-Equal-clause-changes g t c =
    let p = rw c.deref.ensures at c.in-Equal.ensures in
    let q = higher_here g.met.K.Ord.total c.args.low.now c.args.high.now c.in-Fork.node.value.key c.requires.lower p in
    let left = rw c.deref_mut-in-Equal.ensures.value at c.beside_right.ensures.left in
    let key = rw c.deref_mut-in-Equal.ensures.value at c.beside_right.ensures.key in
    let x = rw c.deref_mut-in-Equal.ensures.value at c.beside_right.ensures.changes in
    rw (left, key) (both_here_right g.F.FnMut c.args.in_order g.met.K.Ord.total c.args.low.now c.args.high.now _ _ c.in-Fork.is c.requires.searched p q c.beside_right.new.out _ _ x)

pub returns-in-Equal-compare-clause-changes : goal.returns-in-Equal-compare-clause-changes
returns-in-Equal-compare-clause-changes g t c =
    let p = rw c.deref.ensures at c.in-Less.ensures in
    let q = rw c.deref-in-Less.ensures at c.in-Equal-compare.ensures in
    let right = rw c.deref_mut-in-Equal-compare.ensures.value at c.beside_left.ensures.right in
    let key = rw c.deref_mut-in-Equal-compare.ensures.value at c.beside_left.ensures.key in
    let x = rw c.deref_mut-in-Equal-compare.ensures.value at c.beside_left.ensures.changes in
    rw (right, key) (both_left_here g.F.FnMut c.args.in_order g.met.K.Ord.total c.args.low.now c.args.high.now _ _ c.in-Fork.is c.requires.searched p q c.beside_left.new.out _ _ x)

pub returns-in-Greater-compare-clause-changes : goal.returns-in-Greater-compare-clause-changes
returns-in-Greater-compare-clause-changes g t c =
    let p = rw c.deref.ensures at c.in-Less.ensures in
    let q = rw c.deref-in-Less.ensures at c.in-Greater-compare.ensures in
    let same = rw c.deref_mut-in-Greater-compare.ensures.value at c.apart_at.ensures.entry in
    let key = ap (λ e. e.0) same in
    let value = ap (λ e. e.1) same in
    let x = rw c.deref_mut-in-Greater-compare.ensures.value at c.apart_at.ensures.changes in
    rw (key, value) (both_apart g.F.FnMut c.args.in_order g.met.K.Ord.total c.args.low.now c.args.high.now _ _ c.in-Fork.is c.requires.searched p q c.apart_at.new.out _ _ x)

use Rattle.std.proofs.Common.{◌<◌, refl, arith}
use Rattle.avl_tree.specs.Nodes.{stored_height}
use Rattle.avl_tree.proofs.Steps.{goes, stands_here}
use Rattle.avl_tree.proofs.TwoInPlace.{beside_side, beside_here}
use Rattle.avl_tree.proofs.pairs.+beside.Goals as goal

pub beside-requires : goal.beside-requires
beside-requires g t c κs within =
    let p = rw c.deref.ensures at c.in-Less.ensures in
    let w = goes g.met.K.Ord.total c.args.key.now c.in-Fork.is _ p refl c.requires.searched in
    let lower : stored_height c.in-Fork.node.value.left < t = omega (arith, c.decreases, w.lower) in
    rw c.deref_mut.ensures.value (lower, (within.0, (within.1.0, (within.1.1.0, (within.1.1.1.0, (within.1.1.1.1, (w.searched, (c.requires.callable, c.requires.empty))))))))

pub beside-requires-in-Greater : goal.beside-requires-in-Greater
beside-requires-in-Greater g t c κs within =
    let p = rw c.deref.ensures at c.in-Greater.ensures in
    let w = goes g.met.K.Ord.total c.args.key.now c.in-Fork.is _ p refl c.requires.searched in
    let lower : stored_height c.in-Fork.node.value.right < t = omega (arith, c.decreases, w.lower) in
    rw c.deref_mut-in-Greater.ensures.value (lower, (within.0, (within.1.0, (within.1.1.0, (within.1.1.1.0, (within.1.1.1.1, (w.searched, (c.requires.callable, c.requires.empty))))))))

pub returns-in-Less-clause-changes : goal.returns-in-Less-clause-changes
returns-in-Less-clause-changes g t c =
    let p = rw c.deref.ensures at c.in-Less.ensures in
    let w = goes g.met.K.Ord.total c.args.key.now c.in-Fork.is _ p refl c.requires.searched in
    let x = rw c.deref_mut.ensures.value at c.beside.ensures.changes in
    rw c.deref_mut.ensures.value (beside_side g.F.FnMut c.args.in_order _ _ w _ _ c.beside.new.out _ x)

pub returns-in-Greater-clause-changes : goal.returns-in-Greater-clause-changes
returns-in-Greater-clause-changes g t c =
    let p = rw c.deref.ensures at c.in-Greater.ensures in
    let w = goes g.met.K.Ord.total c.args.key.now c.in-Fork.is _ p refl c.requires.searched in
    let x = rw c.deref_mut-in-Greater.ensures.value at c.beside-in-Greater.ensures.changes in
    rw c.deref_mut-in-Greater.ensures.value (beside_side g.F.FnMut c.args.in_order _ _ w _ _ c.beside-in-Greater.new.out _ x)

pub returns-in-Equal-clause-changes : goal.returns-in-Equal-clause-changes
returns-in-Equal-clause-changes g t c =
    let p = rw c.deref.ensures at c.in-Equal.ensures in
    let w = stands_here g.met.K.Ord.total c.args.key.now c.in-Fork.is p c.requires.searched in
    let x = rw c.deref_mut-in-Equal.ensures.value at c.answer_both.ensures.called in
    rw c.deref_mut-in-Equal.ensures.value (beside_here g.F.FnMut c.args.in_order _ _ w _ _ c.answer_both.new.out _ c.answer_both.ensures.answered x)

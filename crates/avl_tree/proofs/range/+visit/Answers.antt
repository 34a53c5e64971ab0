use Rattle.std.proofs.Common.{◌<◌, [], ◌∷◌, refl, arith}
use Rattle.avl_tree.specs.Nodes.{entry, stored_height}
use Rattle.avl_tree.specs.Visits.{CalledAtEntry}
use Rattle.avl_tree.proofs.Steps.{goes}
use Rattle.avl_tree.proofs.Ranges.{FoldsTo-append, at_node, right_only}
use Rattle.avl_tree.proofs.range.+visit.Goals as goal

pub visit-requires : goal.visit-requires
visit-requires g t c κs within =
    let p = rw c.deref.ensures at c.in-Greater.ensures in
    let w = goes g.met.K.Ord.total c.args.low.now c.in-Fork.is _ p refl c.requires.searched in
    let lower : stored_height c.in-Fork.node.value.right < t = omega (arith, c.decreases, w.lower) in
    rw c.deref-in-Greater.ensures (lower, (within.0, (within.1.0, (within.1.1.0, (within.1.1.1, (w.searched, c.requires.callable))))))

pub visit-requires-in-Greater-compare : goal.visit-requires-in-Greater-compare
visit-requires-in-Greater-compare g t c κs within =
    let q = rw c.deref-in-Equal.ensures at c.in-Greater-compare.ensures in
    let w = goes g.met.K.Ord.total c.args.high.now c.in-Fork.is _ q refl c.requires.searched in
    let lower : stored_height c.in-Fork.node.value.right < t = omega (arith, c.decreases, w.lower) in
    rw c.deref-in-Greater-compare-2.ensures (lower, (within.0, (within.1.0, (within.1.1.0, (within.1.1.1, (w.searched, c.call_at-in-Greater-compare.ensures.callable))))))

pub visit-requires-in-Less-compare-2 : goal.visit-requires-in-Less-compare-2
visit-requires-in-Less-compare-2 g t c κs within =
    let p = rw c.deref.ensures at c.in-Less.ensures in
    let w = goes g.met.K.Ord.total c.args.low.now c.in-Fork.is _ p refl c.requires.searched in
    let lower : stored_height c.in-Fork.node.value.left < t = omega (arith, c.decreases, w.lower) in
    rw c.deref-in-Less-compare-2.ensures (lower, (within.0, (within.1.0, (within.1.1.0, (within.1.1.1, (w.searched, c.requires.callable))))))

pub visit-requires-in-Equal-compare-2 : goal.visit-requires-in-Equal-compare-2
visit-requires-in-Equal-compare-2 g t c κs within =
    let p = rw c.deref.ensures at c.in-Less.ensures in
    let w = goes g.met.K.Ord.total c.args.low.now c.in-Fork.is _ p refl c.requires.searched in
    let lower : stored_height c.in-Fork.node.value.left < t = omega (arith, c.decreases, w.lower) in
    rw c.deref-in-Equal-compare-2.ensures (lower, (within.0, (within.1.0, (within.1.1.0, (within.1.1.1, (w.searched, c.requires.callable))))))

pub visit-requires-in-Greater-compare-2 : goal.visit-requires-in-Greater-compare-2
visit-requires-in-Greater-compare-2 g t c κs within =
    let p = rw c.deref.ensures at c.in-Less.ensures in
    let w = goes g.met.K.Ord.total c.args.low.now c.in-Fork.is _ p refl c.requires.searched in
    let lower : stored_height c.in-Fork.node.value.left < t = omega (arith, c.decreases, w.lower) in
    rw c.deref-in-Greater-compare-2-2.ensures (lower, (within.0, (within.1.0, (within.1.1.0, (within.1.1.1, (w.searched, c.requires.callable))))))

pub visit-requires-in-Greater-compare-2-2 : goal.visit-requires-in-Greater-compare-2-2
visit-requires-in-Greater-compare-2-2 g t c κs within =
    let q = rw c.deref-in-Less.ensures at c.in-Greater-compare-2.ensures in
    let w = goes g.met.K.Ord.total c.args.high.now c.in-Fork.is _ q refl c.requires.searched in
    let lower : stored_height c.in-Fork.node.value.right < t = omega (arith, c.decreases, w.lower) in
    rw c.deref-in-Greater-compare-2-4.ensures (lower, (within.0, (within.1.0, (within.1.1.0, (within.1.1.1, (w.searched, c.call_at-in-Greater-compare-2.ensures.callable))))))

pub returns-in-Greater-clause-visited : goal.returns-in-Greater-clause-visited
returns-in-Greater-clause-visited g t c =
    let p = rw c.deref.ensures at c.in-Greater.ensures in
    let e = right_only g.met.K.Ord.total c.args.low.now c.args.high.now c.in-Fork.is c.requires.searched p in
    rw e (rw c.deref-in-Greater.ensures at c.visit.ensures.visited)

pub returns-in-Less-compare-clause-visited : goal.returns-in-Less-compare-clause-visited
returns-in-Less-compare-clause-visited g t c =
    let p = rw c.deref.ensures at c.in-Equal.ensures in
    let q = rw c.deref-in-Equal.ensures at c.in-Less-compare.ensures in
    let e = at_node g.met.K.Ord.total c.args.low.now c.args.high.now c.in-Fork.is c.requires.searched _ _ p q in
    rw e refl

pub returns-in-Equal-compare-clause-visited : goal.returns-in-Equal-compare-clause-visited
returns-in-Equal-compare-clause-visited g t c =
    let p = rw c.deref.ensures at c.in-Equal.ensures in
    let q = rw c.deref-in-Equal.ensures at c.in-Equal-compare.ensures in
    let e = at_node g.met.K.Ord.total c.args.low.now c.args.high.now c.in-Fork.is c.requires.searched _ _ p q in
    rw e (_, rw c.deref-in-Equal-compare.ensures at c.call_at.ensures.called, refl)

pub returns-in-Greater-compare-clause-visited : goal.returns-in-Greater-compare-clause-visited
returns-in-Greater-compare-clause-visited g t c =
    let p = rw c.deref.ensures at c.in-Equal.ensures in
    let q = rw c.deref-in-Equal.ensures at c.in-Greater-compare.ensures in
    let here = rw c.deref-in-Greater-compare.ensures at c.call_at-in-Greater-compare.ensures.called in
    let right = rw c.deref-in-Greater-compare-2.ensures at c.visit-in-Greater-compare.ensures.visited in
    let e = at_node g.met.K.Ord.total c.args.low.now c.args.high.now c.in-Fork.is c.requires.searched _ _ p q in
    rw e (_, here, right)

pub returns-in-Less-compare-2-clause-visited : goal.returns-in-Less-compare-2-clause-visited
returns-in-Less-compare-2-clause-visited g t c =
    let p = rw c.deref.ensures at c.in-Less.ensures in
    let q = rw c.deref-in-Less.ensures at c.in-Less-compare-2.ensures in
    let left = rw c.deref-in-Less-compare-2.ensures at c.visit-in-Less-compare-2.ensures.visited in
    let e = at_node g.met.K.Ord.total c.args.low.now c.args.high.now c.in-Fork.is c.requires.searched _ _ p q in
    rw e (FoldsTo-append (CalledAtEntry g.F.FnMut) _ _ [] _ _ left refl)

pub returns-in-Equal-compare-2-clause-visited : goal.returns-in-Equal-compare-2-clause-visited
returns-in-Equal-compare-2-clause-visited g t c =
    let p = rw c.deref.ensures at c.in-Less.ensures in
    let q = rw c.deref-in-Less.ensures at c.in-Equal-compare-2.ensures in
    let left = rw c.deref-in-Equal-compare-2.ensures at c.visit-in-Equal-compare-2.ensures.visited in
    let here = rw c.deref-in-Equal-compare-2-2.ensures at c.call_at-in-Equal-compare-2.ensures.called in
    let e = at_node g.met.K.Ord.total c.args.low.now c.args.high.now c.in-Fork.is c.requires.searched _ _ p q in
    rw e (FoldsTo-append (CalledAtEntry g.F.FnMut) _ _ (entry c.in-Fork.node.value ∷ []) _ _ left (_, here, refl))

pub returns-in-Greater-compare-2-clause-visited : goal.returns-in-Greater-compare-2-clause-visited
returns-in-Greater-compare-2-clause-visited g t c =
    let p = rw c.deref.ensures at c.in-Less.ensures in
    let q = rw c.deref-in-Less.ensures at c.in-Greater-compare-2.ensures in
    let left = rw c.deref-in-Greater-compare-2-2.ensures at c.visit-in-Greater-compare-2.ensures.visited in
    let here = rw c.deref-in-Greater-compare-2-3.ensures at c.call_at-in-Greater-compare-2.ensures.called in
    let right = rw c.deref-in-Greater-compare-2-4.ensures at c.visit-in-Greater-compare-2-2.ensures.visited in
    let e = at_node g.met.K.Ord.total c.args.low.now c.args.high.now c.in-Fork.is c.requires.searched _ _ p q in
    rw e (FoldsTo-append (CalledAtEntry g.F.FnMut) _ _ _ _ _ left (_, here, right))

use Rattle.std.proofs.Common.{◌<◌, refl, ◌∙◌, arith}
use Rattle.avl_tree.specs.Nodes.{stored_height}
use Rattle.avl_tree.proofs.Steps.{goes, stands_here, found}
use Rattle.avl_tree.proofs.InPlace.{changes, changes_into}
use Rattle.avl_tree.proofs.updates.+update_below.Goals as goal

pub update_below-requires : goal.update_below-requires
update_below-requires g t c κs within =
    let p = rw c.deref.ensures at c.in-Less.ensures in
    let w = goes g.met.K.Ord.total c.args.key.now c.in-Fork.is _ p refl c.requires.searched in
    let lower : stored_height c.in-Fork.node.value.left < t = omega (arith, c.decreases, w.lower) in
    rw c.deref_mut.ensures.value (lower, (within.0, (within.1.0, (within.1.1.0, (within.1.1.1.0, (within.1.1.1.1, (w.searched, ((λ v is. c.requires.callable v (found w ∙ is)), c.requires.empty))))))))

pub update_below-requires-in-Greater : goal.update_below-requires-in-Greater
update_below-requires-in-Greater g t c κs within =
    let p = rw c.deref.ensures at c.in-Greater.ensures in
    let w = goes g.met.K.Ord.total c.args.key.now c.in-Fork.is _ p refl c.requires.searched in
    let lower : stored_height c.in-Fork.node.value.right < t = omega (arith, c.decreases, w.lower) in
    rw c.deref_mut-in-Greater.ensures.value (lower, (within.0, (within.1.0, (within.1.1.0, (within.1.1.1.0, (within.1.1.1.1, (w.searched, ((λ v is. c.requires.callable v (found w ∙ is)), c.requires.empty))))))))

pub answer_value-requires : goal.answer_value-requires
answer_value-requires g t c =
    let p = rw c.deref.ensures at c.in-Equal.ensures in
    let w = stands_here g.met.K.Ord.total c.args.key.now c.in-Fork.is p c.requires.searched in
    rw c.deref_mut-in-Equal.ensures.value (record { callable = c.requires.callable c.in-Fork.node.value.value w.found; empty = c.requires.empty })

pub returns-in-Less : goal.returns-in-Less
returns-in-Less g t c =
    let p = rw c.deref.ensures at c.in-Less.ensures in
    let w = goes g.met.K.Ord.total c.args.key.now c.in-Fork.is _ p refl c.requires.searched in
    let x = rw c.deref_mut.ensures.value at c.update_below.ensures in
    rw c.deref_mut.ensures.value (changes w g.F.FnMut c.update_below.new.out _ _ _ x)

pub returns-in-Greater : goal.returns-in-Greater
returns-in-Greater g t c =
    let p = rw c.deref.ensures at c.in-Greater.ensures in
    let w = goes g.met.K.Ord.total c.args.key.now c.in-Fork.is _ p refl c.requires.searched in
    let x = rw c.deref_mut-in-Greater.ensures.value at c.update_below-in-Greater.ensures in
    rw c.deref_mut-in-Greater.ensures.value (changes w g.F.FnMut c.update_below-in-Greater.new.out _ _ _ x)

pub returns-in-Equal : goal.returns-in-Equal
returns-in-Equal g t c =
    let p = rw c.deref.ensures at c.in-Equal.ensures in
    let w = stands_here g.met.K.Ord.total c.args.key.now c.in-Fork.is p c.requires.searched in
    let x = rw c.deref_mut-in-Equal.ensures.value at c.answer_value.ensures in
    let left = x.left in
    let right = x.right in
    let key = x.key in
    rw (left, right, key) (changes_into g.F.FnMut w c.answer_value.new.out c.answer_value.new.node.value _ _ x.answered x.called)

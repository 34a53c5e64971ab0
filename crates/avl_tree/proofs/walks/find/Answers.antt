use Rattle.std.proofs.Common.{Some, refl, ap, sym, ◌∙◌}
use Rattle.avl_tree.proofs.Steps.{goes, stands_here, found}
use Rattle.avl_tree.proofs.walks.find.Goals as goal

pub loop-at-preserved-in-Less : goal.loop-at-preserved-in-Less
loop-at-preserved-in-Less g c =
    let p = rw c.deref.ensures at c.in-Less.ensures in
    let w = goes g.met.K.Ord.total c.args.key.now c.in-Fork.is _ p refl c.loop-at.invariant.searched in
    rw c.deref-in-Less.ensures (record { searched = w.searched; same = sym (found w) ∙ c.loop-at.invariant.same })

pub loop-at-preserved : goal.loop-at-preserved
loop-at-preserved g c =
    let p = rw c.deref.ensures at c.in-Greater.ensures in
    let w = goes g.met.K.Ord.total c.args.key.now c.in-Fork.is _ p refl c.loop-at.invariant.searched in
    rw c.deref-in-Greater.ensures (record { searched = w.searched; same = sym (found w) ∙ c.loop-at.invariant.same })

pub returns-in-Equal : goal.returns-in-Equal
returns-in-Equal g c =
    let p = rw c.deref.ensures at c.in-Equal.ensures in
    let w = stands_here g.met.K.Ord.total c.args.key.now c.in-Fork.is p c.loop-at.invariant.searched in
    let here = rw c.deref-in-Equal.ensures at c.value_of.ensures in
    ap Some here ∙ sym w.found ∙ c.loop-at.invariant.same

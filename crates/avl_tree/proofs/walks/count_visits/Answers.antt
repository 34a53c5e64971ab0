use Rattle.std.proofs.Common.{Some, refl, ap, sym, ◌∙◌, arith}
use Rattle.avl_tree.specs.Nodes.{entry, search_of}
use Rattle.avl_tree.proofs.Steps.{goes, stands_here, found}
use Rattle.avl_tree.proofs.Shape.{path-left, path-right}
use Rattle.avl_tree.proofs.walks.count_visits.Goals as goal

pub loop-at-preserved-in-Less : goal.loop-at-preserved-in-Less
loop-at-preserved-in-Less g c =
    let n = c.in-Fork.node.value in
    let leads = c.loop-at.invariant.leads in
    let counted = rw c.in-Fork.is at c.loop-at.invariant.counted in
    let p = rw c.deref.ensures at c.in-Less.ensures in
    let w = goes g.met.K.Ord.total c.args.key.now c.in-Fork.is _ p refl leads.searched in
    let q = path-left (g.K.Ord.cmp c.args.key.now) (search_of n.left) (search_of n.right) (entry n) p in
    rw c.deref-in-Less.ensures (record {
      leads = record { searched = w.searched; same = sym (found w) ∙ leads.same };
      counted = omega (arith, q, counted);
      fits = omega (arith, c.loop-at.invariant.fits, w.lower);
    })

pub loop-at-preserved : goal.loop-at-preserved
loop-at-preserved g c =
    let n = c.in-Fork.node.value in
    let leads = c.loop-at.invariant.leads in
    let counted = rw c.in-Fork.is at c.loop-at.invariant.counted in
    let p = rw c.deref.ensures at c.in-Greater.ensures in
    let w = goes g.met.K.Ord.total c.args.key.now c.in-Fork.is _ p refl leads.searched in
    let q = path-right (g.K.Ord.cmp c.args.key.now) (search_of n.left) (search_of n.right) (entry n) p in
    rw c.deref-in-Greater.ensures (record {
      leads = record { searched = w.searched; same = sym (found w) ∙ leads.same };
      counted = omega (arith, q, counted);
      fits = omega (arith, c.loop-at.invariant.fits, w.lower);
    })

pub returns-in-Equal-clause-value : goal.returns-in-Equal-clause-value
returns-in-Equal-clause-value g c =
    let p = rw c.deref.ensures at c.in-Equal.ensures in
    let w = stands_here g.met.K.Ord.total c.args.key.now c.in-Fork.is p c.loop-at.invariant.leads.searched in
    let here = rw c.deref-in-Equal.ensures at c.value_of.ensures in
    ap Some here ∙ sym w.found ∙ c.loop-at.invariant.leads.same

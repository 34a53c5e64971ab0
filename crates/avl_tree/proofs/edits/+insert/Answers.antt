use Rattle.std.proofs.Common.{◌<◌, ap, sym, ◌∙◌, arith}
use Rattle.avl_tree.specs.Nodes.{entries, stored_height}
use Rattle.avl_tree.proofs.Steps.{below_goes_left, absent_goes_right, found, inserted}
use Rattle.avl_tree.proofs.edits.+insert.Goals as goal
use Rattle.avl_tree.proofs.edits.+insert.Goals.{then-is_below, else-is_below}

pub insert-requires : goal.insert-requires
insert-requires g t c κs within =
    let p = rw c.deref.ensures at c.is_below.ensures in
    let w = below_goes_left g.met.K.Ord.total c.args.key.now c.in-Fork.is c.if-is_below.true p c.requires.searched in
    let lower : stored_height c.in-Fork.node.value.left < t = omega (arith, c.decreases, w.lower) in
    let fits : stored_height c.in-Fork.node.value.left < 200 = omega (arith, c.requires.height_fits, w.lower) in
    rw c.deref_mut.ensures.value (lower, (within.0, (within.1.0, (within.1.1, (w.searched, (fits, (sym (found w) ∙ c.requires.absent, (c.requires.bare, c.requires.key))))))))

pub insert-requires-else-is_below : goal.insert-requires-else-is_below
insert-requires-else-is_below g t c κs within =
    let p = rw c.deref.ensures at c.is_below.ensures in
    let w = absent_goes_right g.met.K.Ord.total c.args.key.now c.in-Fork.is c.if-is_below.false p c.requires.searched c.requires.absent in
    let lower : stored_height c.in-Fork.node.value.right < t = omega (arith, c.decreases, w.lower) in
    let fits : stored_height c.in-Fork.node.value.right < 200 = omega (arith, c.requires.height_fits, w.lower) in
    rw c.deref_mut-else-is_below.ensures.value (lower, (within.0, (within.1.0, (within.1.1, (w.searched, (fits, (sym (found w) ∙ c.requires.absent, (c.requires.bare, c.requires.key))))))))

pub returns-clause-entries : goal.returns-clause-entries
returns-clause-entries g t c =
    let p = rw c.deref.ensures at c.is_below.ensures in
    elim c.if-is_below.branch [
      | then-is_below b ↦
          let w = below_goes_left g.met.K.Ord.total c.args.key.now c.in-Fork.is b.if-is_below.true p c.requires.searched in
          let put = rw b.deref_mut.ensures.value at b.insert.ensures.entries in
          (rw b.deref_mut.ensures.value at (rw b.tree-is at c.regrow.ensures.settled)).1 ∙ inserted w c.args.fresh.value.value b.insert.new.tree put
      | else-is_below b ↦
          let w = absent_goes_right g.met.K.Ord.total c.args.key.now c.in-Fork.is b.if-is_below.false p c.requires.searched c.requires.absent in
          let put = rw b.deref_mut-else-is_below.ensures.value at b.insert-else-is_below.ensures.entries in
          (rw b.deref_mut-else-is_below.ensures.value at (rw b.tree-is at c.regrow.ensures.settled)).1 ∙ inserted w c.args.fresh.value.value b.insert-else-is_below.new.tree put
    ]

pub returns-then-not-grew-clause-entries : goal.returns-then-not-grew-clause-entries
returns-then-not-grew-clause-entries g t c =
    let p = rw c.deref.ensures at c.is_below.ensures in
    elim c.if-is_below.branch [
      | then-is_below b ↦
          let w = below_goes_left g.met.K.Ord.total c.args.key.now c.in-Fork.is b.if-is_below.true p c.requires.searched in
          let put = rw b.deref_mut.ensures.value at b.insert.ensures.entries in
          (rw b.deref_mut.ensures.value at (ap entries b.tree-is)) ∙ inserted w c.args.fresh.value.value b.insert.new.tree put
      | else-is_below b ↦
          let w = absent_goes_right g.met.K.Ord.total c.args.key.now c.in-Fork.is b.if-is_below.false p c.requires.searched c.requires.absent in
          let put = rw b.deref_mut-else-is_below.ensures.value at b.insert-else-is_below.ensures.entries in
          (rw b.deref_mut-else-is_below.ensures.value at (ap entries b.tree-is)) ∙ inserted w c.args.fresh.value.value b.insert-else-is_below.new.tree put
    ]

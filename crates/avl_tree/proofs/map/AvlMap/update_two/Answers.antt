use Rattle.std.proofs.Common.{true, false, refl, sym, ◌∙◌}
use Rattle.avl_tree.proofs.SplitEntries.{reversed_Greater}
use Rattle.avl_tree.proofs.Shape.{entries_search_of}
use Rattle.avl_tree.proofs.TwoInPlace.{changed_other_way}
use Rattle.avl_tree.proofs.MapInvariants.{whole_changes_two}
use Rattle.avl_tree.proofs.map.AvlMap.update_two.Goals as goal

pub invariant_of-self : goal.invariant_of-self
invariant_of-self g c = (refl, tt, whole_changes_two c.self.invariant g.F.FnMut true c.args.a.now c.args.b.now c.update_two.result c.args.f.now c.update_two.new.f c.update_two.new.tree c.update_two.ensures.changes)

pub invariant_of-self-in-Greater : goal.invariant_of-self-in-Greater
invariant_of-self-in-Greater g c = (refl, tt, whole_changes_two c.self.invariant g.F.FnMut false c.args.b.now c.args.a.now c.update_two-in-Greater.result c.args.f.now c.update_two-in-Greater.new.f c.update_two-in-Greater.new.tree c.update_two-in-Greater.ensures.changes)

pub returns-in-Greater-clause-changed : goal.returns-in-Greater-clause-changed
returns-in-Greater-clause-changed g c =
    let e = entries_search_of c.self.inside.root in
    let n = entries_search_of c.update_two-in-Greater.new.tree in
    let below = reversed_Greater (g.K.Ord.cmp c.args.b.now c.args.a.now) (sym (g.met.K.Ord.total.antisymm c.args.a.now c.args.b.now) ∙ sym c.in-Greater.ensures) in
    rw (← c.self.view_is, e, n) (changed_other_way g.F.FnMut g.met.K.Ord.total c.args.b.now c.args.a.now c.self.inside.root c.update_two-in-Greater.new.tree c.args.f.now c.update_two-in-Greater.new.f below c.update_two-in-Greater.result c.update_two-in-Greater.ensures.changes)

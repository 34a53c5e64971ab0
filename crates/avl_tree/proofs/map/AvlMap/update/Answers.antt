use Rattle.std.proofs.Common.{refl}
use Rattle.avl_tree.proofs.MapInvariants.{whole_changes}
use Rattle.avl_tree.proofs.MapViews.{takes_seen, changed_seen, unchanged_seen, still_callable}
use Rattle.avl_tree.proofs.map.AvlMap.update.Goals as goal

pub invariant_of-self : goal.invariant_of-self
invariant_of-self g c = (refl, tt, whole_changes c.self.invariant g.F.FnMut c.args.key.now c.update.result c.args.f.now c.update.new.f c.update.new.tree c.update.ensures)

pub update-requires-clause-callable : goal.update-requires-clause-callable
update-requires-clause-callable g c = takes_seen g.K.Ord.cmp c.args.key.now c.self.inside.root c.self.inside.root c.self.inside.spare c.args.self.now c.self.view_is g.F.FnMut c.args.f.now c.args.f.now c.requires

pub returns-clause-changed : goal.returns-clause-changed
returns-clause-changed g c = changed_seen g.K.Ord.cmp c.args.key.now c.self.inside.root c.update.new.tree c.self.inside.spare c.args.self.now c.self.view_is g.F.FnMut c.args.f.now c.update.new.f c.update.result c.update.ensures

pub returns-clause-absent : goal.returns-clause-absent
returns-clause-absent g c = unchanged_seen g.K.Ord.cmp c.args.key.now c.self.inside.root c.update.new.tree c.self.inside.spare c.args.self.now c.self.view_is g.F.FnMut c.args.f.now c.update.new.f c.update.result c.update.ensures

pub returns-clause-callable : goal.returns-clause-callable
returns-clause-callable g c = still_callable g.K.Ord.cmp c.args.key.now c.self.inside.root c.update.new.tree c.self.inside.spare c.args.self.now c.self.view_is g.F.FnMut c.args.f.now c.update.new.f c.update.result c.update.ensures

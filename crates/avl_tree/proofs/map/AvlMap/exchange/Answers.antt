use Rattle.std.proofs.Common.{refl}
use Rattle.avl_tree.proofs.MapInvariants.{whole_exchange}
use Rattle.avl_tree.proofs.MapViews.{exchanged_old, exchanged_written, exchanged_absent}
use Rattle.avl_tree.proofs.map.AvlMap.exchange.Goals as goal

pub invariant_of-self : goal.invariant_of-self
invariant_of-self g c = (refl, tt, whole_exchange c.self.invariant c.args.key.now c.args.value.now _ c.exchange.result c.exchange.new.tree c.exchange.ensures)

pub returns-clause-old : goal.returns-clause-old
returns-clause-old g c = exchanged_old g.K.Ord.cmp c.args.key.now c.self.inside.root c.exchange.new.tree c.self.inside.spare c.args.self.now c.self.view_is c.exchange.result _ _ c.exchange.ensures

pub returns-clause-written : goal.returns-clause-written
returns-clause-written g c = exchanged_written g.K.Ord.cmp c.args.key.now c.self.inside.root c.exchange.new.tree c.self.inside.spare c.args.self.now c.self.view_is c.exchange.result _ _ c.exchange.ensures

pub returns-clause-absent : goal.returns-clause-absent
returns-clause-absent g c = exchanged_absent g.K.Ord.cmp c.args.key.now c.self.inside.root c.exchange.new.tree c.self.inside.spare c.args.self.now c.self.view_is c.exchange.result _ _ c.exchange.ensures

use Rattle.avl_tree.specs.Nodes.{LeadsTo}
use Rattle.avl_tree.proofs.walks.find.Given as goal

abbrev pub invariant-loop-at : goal.invariant-loop-at
invariant-loop-at g l = LeadsTo g.K.Ord.cmp l.key l.tree l.at

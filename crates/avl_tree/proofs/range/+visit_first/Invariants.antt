use Rattle.avl_tree.specs.Nodes.{stored_height}
use Rattle.avl_tree.proofs.range.+visit_first.Given as goal

abbrev pub decreases-visit_first : goal.decreases-visit_first
decreases-visit_first g l = stored_height l.tree.now

use Rattle.avl_tree.specs.Nodes.{stored_height}
use Rattle.avl_tree.proofs.range.+visit.Given as goal

abbrev pub decreases-visit : goal.decreases-visit
decreases-visit g l = stored_height l.tree.now

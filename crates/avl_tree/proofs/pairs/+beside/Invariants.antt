use Rattle.avl_tree.specs.Nodes.{stored_height}
use Rattle.avl_tree.proofs.pairs.+beside.Given as goal

abbrev pub decreases-beside : goal.decreases-beside
decreases-beside g l = stored_height l.tree.now

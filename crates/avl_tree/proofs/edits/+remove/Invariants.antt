use Rattle.avl_tree.specs.Nodes.{stored_height}
use Rattle.avl_tree.proofs.edits.+remove.Given as goal

abbrev pub decreases-remove : goal.decreases-remove
decreases-remove g l = stored_height l.tree.now

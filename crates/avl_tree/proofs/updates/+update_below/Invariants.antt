use Rattle.avl_tree.specs.Nodes.{stored_height}
use Rattle.avl_tree.proofs.updates.+update_below.Given as goal

abbrev pub decreases-update_below : goal.decreases-update_below
decreases-update_below g l = stored_height l.tree.now

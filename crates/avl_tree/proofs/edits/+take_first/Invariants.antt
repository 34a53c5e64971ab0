use Rattle.avl_tree.specs.Nodes.{stored_height}
use Rattle.avl_tree.proofs.edits.+take_first.Given as goal

abbrev pub decreases-take_first : goal.decreases-take_first
decreases-take_first g l = stored_height l.tree.now

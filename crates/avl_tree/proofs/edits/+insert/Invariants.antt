use Rattle.avl_tree.specs.Nodes.{stored_height}
use Rattle.avl_tree.proofs.edits.+insert.Given as goal

abbrev pub decreases-insert : goal.decreases-insert
decreases-insert g l = stored_height l.tree.now

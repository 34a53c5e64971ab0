use Rattle.avl_tree.specs.Nodes.{stored_height}
use Rattle.avl_tree.proofs.edits.+exchange.Given as goal

abbrev pub decreases-exchange : goal.decreases-exchange
decreases-exchange g l = stored_height l.tree.now

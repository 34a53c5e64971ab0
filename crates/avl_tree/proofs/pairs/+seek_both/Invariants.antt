use Rattle.avl_tree.specs.Nodes.{stored_height}
use Rattle.avl_tree.proofs.pairs.+seek_both.Given as goal

abbrev pub decreases-seek_both : goal.decreases-seek_both
decreases-seek_both g l = stored_height l.tree.now

use Rattle.std.proofs.Common.{◌+◌}
use Rattle.avl_tree.specs.private.Freeing.{node_count}
use Rattle.avl_tree.proofs.freeing.+free_both.Given as goal

abbrev pub decreases-free_both : goal.decreases-free_both
decreases-free_both g l = node_count l.tree + node_count l.other

use Rattle.std.proofs.Common.{◌+◌, ◌*◌}
use Rattle.avl_tree.specs.Nodes.{stored_height}
use Rattle.avl_tree.proofs.pairs.+apart.Given as goal

abbrev pub decreases-apart : goal.decreases-apart
decreases-apart g l = 2 * (stored_height l.tree.now + stored_height l.other.now)

-- it hands both trees on as they are
abbrev pub decreases-apart_below : goal.decreases-apart_below
decreases-apart_below g l = 2 * (stored_height l.next.now + stored_height l.last.now) + 1

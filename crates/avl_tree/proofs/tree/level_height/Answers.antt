use Rattle.std.proofs.Common.{rules}
use Rattle.avl_tree.proofs.tree.level_height.Goals as goal

pub returns : goal.returns
returns g c = search rules

use Rattle.std.proofs.Common.{rules, append_assoc}
use Rattle.avl_tree.proofs.tree.lean_left.Goals as goal

pub returns-then-height-clause-entries : goal.returns-then-height-clause-entries
returns-then-height-clause-entries g c = search (rules, append_assoc)

pub returns-clause-entries : goal.returns-clause-entries
returns-clause-entries g c = search (rules, append_assoc)

use Rattle.std.proofs.Common.{Some, ap, ◌∙◌}
use Rattle.avl_tree.specs.Nodes.{entry}
use Rattle.avl_tree.proofs.LeastEntry.{least_here, least_below}
use Rattle.avl_tree.proofs.walks.+first.Goals as goal

pub returns-in-Empty : goal.returns-in-Empty
returns-in-Empty g t c = ap Some (c.entry_of.ensures ∙ ap entry c.deref-in-Empty.ensures) ∙ least_here c.in-Fork.is c.deref.ensures c.in-Empty.is

pub returns-in-Fork-left : goal.returns-in-Fork-left
returns-in-Fork-left g t c = c.first.ensures ∙ least_below c.in-Fork.is c.deref.ensures c.in-Fork-left.is c.deref-in-Fork-left.ensures

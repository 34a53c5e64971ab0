-- The side of a node in which a search goes on, and the node after a `&mut` to that side has ended.
use Rattle.std.specs.Borrow.{Fml, RattleType, MutBor, Lends}
use Rattle.std.specs.declared.alloc.Allocator.{Ghosts}
use Rattle.std.specs.declared.cmp.Ordering.{Ordering}
use Rattle.std.specs.declared.cmp.Ordering.TheVariants.{Less, Equal, Greater}
use Rattle.avl_tree.specs.declared.tree.Node.{Node}
use Rattle.avl_tree.specs.declared.tree.Tree.{Tree}
use Rattle.avl_tree.specs.contracts.tree.Node.{the_row as node_row}
use Rattle.avl_tree.specs.contracts.tree.Tree.{the_row as tree_row}

-- the right side if the key that is looked for is greater, otherwise the left side
abbrev pub side_of : {K V A : Type 0} → Ordering → Node K V A → Tree K V A
side_of Less n = n.left
side_of Equal n = n.left
side_of Greater n = n.right

-- the node with another tree at that side
abbrev pub with_side : {K V A : Type 0} → Ordering → Node K V A → Tree K V A → Node K V A
with_side Less n t = record n { left = t }
with_side Equal n t = record n { left = t }
with_side Greater n t = record n { right = t }

abbrev pub lends_side : (K V A : RattleType) (alloc : Ghosts A.Denot) → Ordering → MutBor (Node K.Denot V.Denot A.Denot) → MutBor (Tree K.Denot V.Denot A.Denot) → Fml
lends_side K V A alloc order n r = Lends (node_row K V A alloc) (tree_row K V A alloc) n r (with_side order n.now)

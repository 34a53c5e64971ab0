-- What the freeing of trees counts.
use Rattle.std.specs.Prelude.{ℕ, ◌+◌}
use Rattle.avl_tree.specs.declared.tree.Tree.{Tree}
use Rattle.avl_tree.specs.declared.tree.Tree.TheVariants.{Empty, Fork'}

-- the number of nodes
abbrev pub node_count : {K V A : Type 0} → Tree K V A → ℕ
node_count Empty = 0
node_count (Fork' h p k l r v) = node_count l + node_count r + 1

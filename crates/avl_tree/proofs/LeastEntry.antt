-- The first entry of a tree, whose root is b and is read as m.
use Rattle.std.proofs.Common.{◌≡◌, ℕ, Some, List, [], ◌∷◌, ◌++◌, refl, sym, ap, ◌∙◌}
use Rattle.std.specs.List.{slice_get}
use Rattle.std.specs.declared.boxed.Box.{Box}
use Rattle.avl_tree.specs.Nodes.{entries, entry}
use Rattle.avl_tree.specs.declared.tree.Node.{Node}
use Rattle.avl_tree.specs.declared.tree.Tree.{Tree}
use Rattle.avl_tree.specs.declared.tree.Tree.TheVariants.{Empty}
use Rattle.avl_tree.specs.declared.tree.Tree.TheViews.{Fork}

first_stays : {E : Type 0} (xs ys zs : List E) (e : E) → slice_get (xs ++ e ∷ ys) 0 ≡ slice_get ((xs ++ e ∷ ys) ++ zs) 0
first_stays [] ys zs e = refl
first_stays (x ∷ xs) ys zs e = refl

module _ {K V A : Type 0} {t : Tree K V A} {h : ℕ} {b : Box (Node K V A) A} {m : Node K V A} (is : t ≡ Fork h b) (read : m ≡ b.value) where
  pub least_here : m.left ≡ Empty → Some (entry b.value) ≡ slice_get (entries t) 0
  least_here none =
      let left = ap (λ (n : Node K V A). n.left) (sym read) ∙ none in
      rw (is, left) refl

  pub least_below : {k : ℕ} {l : Box (Node K V A) A} {n : Node K V A} → m.left ≡ Fork k l → n ≡ b.value → slice_get (entries n.left) 0 ≡ slice_get (entries t) 0
  least_below {k} {l} some again =
      let left = ap (λ (n : Node K V A). n.left) (sym read) ∙ some in
      rw (again, is, left) (first_stays (entries l.value.left) (entries l.value.right) (entry b.value ∷ entries b.value.right) (entry l.value))

-- The pairs of a range, if a walk is at a node with the pairs l to its left and r to its right.
use Rattle.std.proofs.Common.{◌≡◌, ℕ, Bool, true, false, cond, List, [], ◌∷◌, ◌++◌, sym, ap, ◌∙◌, refl, subst}
use Rattle.std.specs.declared.boxed.Box.{Box}
use Rattle.std.specs.declared.cmp.Ordering.{Ordering}
use Rattle.std.specs.declared.cmp.Ordering.TheVariants.{Less, Equal, Greater}
use Rattle.std.specs.Ordering.{ordering_reverse, is_le, is_lt, is_ge, is_gt}
use Rattle.std.specs.Prelude.{◌&&◌}
use Rattle.std.specs.Cmp.{IsTotalOrder}
use Rattle.std.specs.List.{FoldsTo}
use Rattle.std.proofs.lemmas.List.Elements.{filter-append}
use Rattle.avl_tree.specs.Nodes.{entries, entry, IsOrdered, IsSearchTree}
use Rattle.avl_tree.specs.Visits.{between}
use Rattle.avl_tree.specs.declared.tree.Node.{Node}
use Rattle.avl_tree.specs.declared.tree.Tree.{Tree}
use Rattle.avl_tree.specs.declared.tree.Tree.TheViews.{Fork}
use Rattle.avl_tree.proofs.SplitEntries.{IsAbove, IsBelow, above_front, below_back}

-- calls at xs and then at ys are calls at both
pub FoldsTo-append : {P A : Type 0} (R : P → A → P → Type 0) (p : P) (xs ys : List A) (q u : P) → FoldsTo R p xs q → FoldsTo R q ys u → FoldsTo R p (xs ++ ys) u
FoldsTo-append R p [] ys q u a b = rw a b
FoldsTo-append R p (x ∷ xs) ys q u a b = (a.0, a.1, FoldsTo-append R a.0 xs ys q u a.2 b)

is_le-reverse : (d : Ordering) → is_le (ordering_reverse d) ≡ is_ge d
is_le-reverse Less = refl
is_le-reverse Equal = refl
is_le-reverse Greater = refl

then_rest : {E : Type 0} (t : Bool) (e : E) {m n : List E} → m ≡ n → cond t (e ∷ m) m ≡ cond t (e ∷ []) [] ++ n
then_rest true e p = ap (λ es. e ∷ es) p
then_rest false e p = p

module _ {K V : Type 0} {cmp : K → K → Ordering} (o : IsTotalOrder cmp) (low high : K) where
  between-above : (es : List (K × V)) → IsAbove cmp low es → between cmp low high es ≡ []
  between-above [] a = refl
  between-above (x ∷ es) a = let p = a.0 in rw p (between-above es a.1)

  between-below : (es : List (K × V)) → IsBelow cmp high es → between cmp low high es ≡ []
  between-below [] b = refl
  between-below (x ∷ es) b =
      let p : cmp x.0 high ≡ Greater = o.antisymm x.0 high ∙ ap ordering_reverse b.0 in
      elim (is_le (cmp low x.0)) as (λ t. cond (t && is_le (cmp x.0 high)) (x ∷ between cmp low high es) (between cmp low high es) ≡ []) [
        | true ↦ rw p (between-below es b.1)
        | false ↦ between-below es b.1
      ]

  module _ (l : List (K × V)) (e : K × V) (r : List (K × V)) (s : IsOrdered cmp (l ++ e ∷ r)) where
    on_the_left : (c : Ordering) → c ≡ cmp low e.0 → between cmp low high l ≡ cond (is_lt c) (between cmp low high l) []
    on_the_left Less p = refl
    on_the_left Equal p = between-above l (above_front o low l e r Equal s p refl)
    on_the_left Greater p = between-above l (above_front o low l e r Greater s p refl)

    on_the_right : (d : Ordering) → d ≡ cmp high e.0 → between cmp low high r ≡ cond (is_gt d) (between cmp low high r) []
    on_the_right Less q = between-below r (below_back o high l e r Less s q refl)
    on_the_right Equal q = between-below r (below_back o high l e r Equal s q refl)
    on_the_right Greater q = refl

    in_three : (c d : Ordering) → c ≡ cmp low e.0 → d ≡ cmp high e.0 → between cmp low high (l ++ e ∷ r) ≡ cond (is_lt c) (between cmp low high l) [] ++ (cond (is_le c && is_ge d) (e ∷ []) [] ++ cond (is_gt d) (between cmp low high r) [])
    in_three c d p q =
        let at_low : is_le (cmp low e.0) ≡ is_le c = ap is_le (sym p) in
        let at_high : is_le (cmp e.0 high) ≡ is_ge d = ap is_le (o.antisymm e.0 high ∙ ap ordering_reverse (sym q)) ∙ is_le-reverse d in
        let here : between cmp low high (e ∷ r) ≡ cond (is_le c && is_ge d) (e ∷ []) [] ++ cond (is_gt d) (between cmp low high r) [] = rw (at_low, at_high) (then_rest (is_le c && is_ge d) e (on_the_right d q)) in
        filter-append (λ e. is_le (cmp low e.0) && is_le (cmp e.0 high)) l (e ∷ r) ∙ (λ i. on_the_left c p i ++ here i)

    right_of_low : Greater ≡ cmp low e.0 → between cmp low high (l ++ e ∷ r) ≡ between cmp low high r
    right_of_low p =
        let q = sym p in
        filter-append (λ e. is_le (cmp low e.0) && is_le (cmp e.0 high)) l (e ∷ r) ∙ rw (on_the_left Greater p, q) refl

  -- what a walk gives, by how the bounds compare to the root's key
  module _ {A : Type 0} {t : Tree K V A} {h : ℕ} {b : Box (Node K V A) A} (is : t ≡ Fork h b) (s : IsSearchTree cmp t) where
    sorted : IsOrdered cmp (entries b.value.left ++ entry b.value ∷ entries b.value.right)
    sorted = (subst (IsSearchTree cmp) is s).1

    pub at_node : (c d : Ordering) → c ≡ cmp low b.value.key → d ≡ cmp high b.value.key → between cmp low high (entries t) ≡ cond (is_lt c) (between cmp low high (entries b.value.left)) [] ++ (cond (is_le c && is_ge d) (entry b.value ∷ []) [] ++ cond (is_gt d) (between cmp low high (entries b.value.right)) [])
    at_node c d p q = ap (λ u. between cmp low high (entries u)) is ∙ in_three (entries b.value.left) (entry b.value) (entries b.value.right) sorted c d p q

    pub right_only : Greater ≡ cmp low b.value.key → between cmp low high (entries t) ≡ between cmp low high (entries b.value.right)
    right_only p = ap (λ u. between cmp low high (entries u)) is ∙ right_of_low (entries b.value.left) (entry b.value) (entries b.value.right) sorted p

-- What a search for k does at a tree t, whose root is b.
use Rattle.std.proofs.Common.{◌≡◌, ℕ, ◌<◌, [], ◌∷◌, List, ◌++◌, Bool, true, false, None, Some, refl, sym, ap, ◌∙◌, subst, arith}
use Rattle.std.specs.declared.boxed.Box.{Box}
use Rattle.std.specs.declared.cmp.Ordering.{Ordering}
use Rattle.std.specs.declared.cmp.Ordering.TheVariants.{Less, Equal, Greater}
use Rattle.std.specs.Box.{with_value}
use Rattle.std.specs.Ordering.{is_eq, is_lt}
use Rattle.std.specs.Cmp.{IsTotalOrder}
use Rattle.std.specs.List.Sorted.{IsStrictlySortedBy}
use Rattle.std.specs.Map.{lookup, set_value, remove_entry}
use Rattle.std.specs.BTreeMap.{insert_entry, is_at}
use Rattle.std.proofs.lemmas.Map.{keys-set_value}
use Rattle.avl_tree.specs.Nodes.{entries, entry, stored_height, IsAvl, IsSearchTree}
use Rattle.avl_tree.specs.Changes.{KeepsLinks}
use Rattle.avl_tree.specs.private.Sides.{side_of, with_side}
use Rattle.avl_tree.specs.declared.tree.Node.{Node}
use Rattle.avl_tree.specs.declared.tree.Tree.{Tree}
use Rattle.avl_tree.specs.declared.tree.Tree.TheVariants.{Fork'}
use Rattle.avl_tree.specs.declared.tree.Tree.TheViews.{Fork}
use Rattle.avl_tree.proofs.SplitEntries.{Passes, passes_above, passes_below, passes_both, ordered_left, ordered_right, ordered_tail, above_front, below_back}

module _ {K V A : Type 0} where
  keeps : {h : ℕ} {p : _} {l l' r r' : Tree K V A} {a : K} {b b' : V} → IsAvl (Fork' h p a l r b) → KeepsLinks l l' → KeepsLinks r r' → KeepsLinks (Fork' h p a l r b) (Fork' h p a l' r' b')
  keeps avl k m =
      let left = k.height in
      let right = m.height in
      record { balanced = (k.balanced, m.balanced, rw (left, right) avl.2, rw (left, right) avl.3); height = refl }

  same : {t : Tree K V A} → IsAvl t → KeepsLinks t t
  same avl = record { balanced = avl; height = refl }

  pub keeps_both : {t u v : Tree K V A} → KeepsLinks t u → KeepsLinks u v → KeepsLinks t v
  keeps_both k m = record { balanced = m.balanced; height = m.height ∙ k.height }

  -- the entries of a tree with another one at a side of its root
  abbrev pub around : Ordering → Node K V A → List (K × V) → List (K × V)
  around Less n m = m ++ entry n ∷ entries n.right
  around Equal n m = m ++ entry n ∷ entries n.right
  around Greater n m = entries n.left ++ entry n ∷ m

-- the search goes on in `side`, in whose place `put` puts another tree
pub record GoesTo {K V A : Type 0} (cmp : K → K → Ordering) (k : K) (t side : Tree K V A) (put : Tree K V A → Tree K V A) (beside : List (K × V) → List (K × V)) : Type 0 where
  pub searched : IsSearchTree cmp side
  pub lower : stored_height side < stored_height t
  pub whole : put side ≡ t
  pub keeps : (u : Tree K V A) → KeepsLinks side u → KeepsLinks t (put u)
  pub shows : (u : Tree K V A) → entries (put u) ≡ beside (entries u)
  pub passes : Passes cmp k beside

module _ {K V A : Type 0} {cmp : K → K → Ordering} {k : K} {t side : Tree K V A} {put : Tree K V A → Tree K V A} {beside : List (K × V) → List (K × V)} (w : GoesTo cmp k t side put beside) where
  entries_whole : entries t ≡ beside (entries side)
  entries_whole = ap entries (sym w.whole) ∙ w.shows side

  pub found : lookup (is_at (cmp k)) (entries t) ≡ lookup (is_at (cmp k)) (entries side)
  found = ap (λ es. lookup (is_at (cmp k)) es) entries_whole ∙ w.passes.found (entries side)

  -- a change of the side's entries that passes what is next to them is a change of the tree's
  pub carried : (change : List (K × V) → List (K × V)) → ((m : List (K × V)) → change (beside m) ≡ beside (change m)) → (u : Tree K V A) → entries u ≡ change (entries side) → entries (put u) ≡ change (entries t)
  carried change passes u q = w.shows u ∙ ap beside q ∙ sym (passes (entries side)) ∙ ap change (sym entries_whole)

  pub written : (v : V) (u : Tree K V A) → entries u ≡ set_value (is_at (cmp k)) (entries side) v → entries (put u) ≡ set_value (is_at (cmp k)) (entries t) v
  written v = carried (λ es. set_value (is_at (cmp k)) es v) (w.passes.written v)

  pub removed : (u : Tree K V A) → entries u ≡ remove_entry (is_at (cmp k)) (entries side) → entries (put u) ≡ remove_entry (is_at (cmp k)) (entries t)
  removed = carried (remove_entry (is_at (cmp k))) w.passes.removed

  pub inserted : (v : V) (u : Tree K V A) → entries u ≡ insert_entry cmp (entries side) k v → entries (put u) ≡ insert_entry cmp (entries t) k v
  inserted v = carried (λ es. insert_entry cmp es k v) (w.passes.inserted v)

-- the key is at the root n, at which `put` puts another value
pub record StandsHere {K V A : Type 0} (cmp : K → K → Ordering) (k : K) (t : Tree K V A) (n : Node K V A) (put : V → Tree K V A) : Type 0 where
  pub keeps : (v : V) → KeepsLinks t (put v)
  pub found : lookup (is_at (cmp k)) (entries t) ≡ Some n.value
  pub written : (v : V) → entries (put v) ≡ set_value (is_at (cmp k)) (entries t) v
  pub removed : entries n.left ++ entries n.right ≡ remove_entry (is_at (cmp k)) (entries t)

module _ {K V A : Type 0} {cmp : K → K → Ordering} (o : IsTotalOrder cmp) (k : K) {t : Tree K V A} {h : ℕ} {b : Box (Node K V A) A} (is : t ≡ Fork h b) where
  pub goes : (c : Ordering) → c ≡ cmp k b.value.key → is_eq c ≡ false → IsSearchTree cmp t → GoesTo cmp k t (side_of c b.value) (λ u. Fork h (with_value b (with_side c b.value u))) (around c b.value)
  goes Less p other s =
      let n = b.value in
      let x = subst (IsSearchTree cmp) is s in
      rw is (record {
        searched = (x.0.0, ordered_left cmp (entries n.left) (entry n ∷ entries n.right) x.1);
        lower = let avl = x.0 in omega (arith, avl.2);
        whole = refl;
        keeps = λ u kept. keeps x.0 kept (same x.0.1);
        shows = λ u. refl;
        passes = passes_below cmp k (entry n ∷ entries n.right) (sym p, below_back o k (entries n.left) (entry n) (entries n.right) Less x.1 p refl);
      })
  goes Equal p other s = absurd (cc)
  goes Greater p other s =
      let n = b.value in
      let x = subst (IsSearchTree cmp) is s in
      rw is (record {
        searched = (x.0.1, ordered_tail cmp (entry n) (entries n.right) (ordered_right cmp (entries n.left) (entry n ∷ entries n.right) x.1));
        lower = let avl = x.0 in omega (arith, avl.2);
        whole = refl;
        keeps = λ u kept. keeps x.0 (same x.0.0) kept;
        shows = λ u. refl;
        passes = passes_both cmp k (passes_above cmp k (entries n.left) (above_front o k (entries n.left) (entry n) (entries n.right) Greater x.1 p refl)) (passes_above cmp k (entry n ∷ []) (sym p, tt));
      })

  pub stands_here : Equal ≡ cmp k b.value.key → IsSearchTree cmp t → StandsHere cmp k t b.value (λ v. Fork h (with_value b (record b.value { value = v })))
  stands_here p s =
      let n = b.value in
      let x = subst (IsSearchTree cmp) is s in
      let q : cmp k n.key ≡ Equal = sym p in
      let front = passes_above cmp k (entries n.left) (above_front o k (entries n.left) (entry n) (entries n.right) Equal x.1 p refl) in
      rw is (record {
        keeps = λ v. keeps x.0 (same x.0.0) (same x.0.1);
        found = front.found (entry n ∷ entries n.right) ∙ rw q refl;
        written = λ v. sym (front.written v (entry n ∷ entries n.right) ∙ rw q refl);
        removed = sym (front.removed (entry n ∷ entries n.right) ∙ rw q refl);
      })

  -- which way a key goes of which it is known whether it is below the node's
  below : (c : Ordering) → true ≡ is_lt c → Less ≡ c
  below Less p = refl
  below Equal p = cc
  below Greater p = cc

  not_below : (c : Ordering) → false ≡ is_lt c → (Equal ≡ c → ⊥) → Greater ≡ c
  not_below Less p n = cc
  not_below Equal p n = absurd (n refl)
  not_below Greater p n = refl

  pub below_goes_left : {is_below : Bool} → is_below ≡ true → is_below ≡ is_lt (cmp k b.value.key) → IsSearchTree cmp t → GoesTo cmp k t b.value.left (λ u. Fork h (with_value b (with_side Less b.value u))) (around Less b.value)
  below_goes_left q p s = goes Less (below (cmp k b.value.key) (sym q ∙ p)) refl s

  -- an absent key that is not below goes right
  pub absent_goes_right : {is_below : Bool} → is_below ≡ false → is_below ≡ is_lt (cmp k b.value.key) → IsSearchTree cmp t → lookup (is_at (cmp k)) (entries t) ≡ None → GoesTo cmp k t b.value.right (λ u. Fork h (with_value b (with_side Greater b.value u))) (around Greater b.value)
  absent_goes_right q p s absent =
      goes Greater (not_below (cmp k b.value.key) (sym q ∙ p) (λ same. let found = (stands_here same s).found in absurd (cc))) refl s

-- the tree is still searched after a value was written
pub searched_after : {K V A : Type 0} (cmp : K → K → Ordering) {t u : Tree K V A} (test : K → Bool) (v : V) → IsSearchTree cmp t → KeepsLinks t u → entries u ≡ set_value test (entries t) v → IsSearchTree cmp u
searched_after cmp {t = t} test v s kept is =
    (kept.balanced, rw is (subst (λ ks. IsStrictlySortedBy cmp ks) (sym (keys-set_value test (entries t) v)) s.1))

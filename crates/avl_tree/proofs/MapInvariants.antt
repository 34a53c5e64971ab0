-- What the fields of a map keep, through each change.
use Rattle.std.proofs.Common.{◌≡◌, ℕ, ◌+◌, ◌<◌, Bool, true, false, length, ◌∷◌, Option, None, Some, sym, ap, ◌∙◌, subst, arith}
use Rattle.std.specs.declared.cmp.Ordering.{Ordering}
use Rattle.std.specs.Cmp.{IsTotalOrder}
use Rattle.std.specs.List.Sorted.{IsStrictlySortedBy}
use Rattle.std.specs.Fn.{Mut}
use Rattle.std.specs.Map.{keys_of, lookup, set_value, remove_entry}
use Rattle.std.specs.BTreeMap.{insert_entry, is_at}
use Rattle.std.proofs.lemmas.Map.{keys-set_value}
use Rattle.std.proofs.lemmas.Map.Entries.{length-keys_of}
use Rattle.avl_tree.specs.Nodes.{entries, stored_height, IsAvl, IsOrdered, IsWholeTree, Exchanges}
use Rattle.avl_tree.specs.Changes.{Changes}
use Rattle.avl_tree.specs.private.Pairs.{Taking, ChangesBoth}
use Rattle.avl_tree.specs.declared.tree.Tree.{Tree}
use Rattle.avl_tree.proofs.SplitEntries.{ordered_tail, ordered-insert_entry, ordered-remove_entry, length-insert_entry, length-remove_entry_found, remove_entry-absent}
use Rattle.avl_tree.proofs.Shape.{low, least-le-length}
use denote.Ref.{MutBor}

module _ {K V A : Type 0} {cmp : K → K → Ordering} {root : Tree K V A} {len spare : ℕ} (w : IsWholeTree cmp root len spare) where
  pub low_height : stored_height root < 130
  low_height =
      let n = w.counted in
      let f = w.fits in
      low (stored_height root) (length (entries root)) (least-le-length root w.balanced) (omega (arith, n, f))

  whole_kept : {root' : Tree K V A} → keys_of (entries root') ≡ keys_of (entries root) → IsAvl root' → IsWholeTree cmp root' len spare
  whole_kept {root'} same avl =
      record {
        balanced = avl;
        sorted = subst (λ ks. IsStrictlySortedBy cmp ks) (sym same) w.sorted;
        counted = w.counted ∙ sym (length-keys_of (entries root)) ∙ ap length (sym same) ∙ length-keys_of (entries root');
        fits = w.fits;
      }

  pub whole_exchange : (k : K) (v v' : V) (b : Bool) (root' : Tree K V A) → Exchanges (is_at (cmp k)) root v b root' v' → IsWholeTree cmp root' len spare
  whole_exchange k v v' true root' x = whole_kept (ap keys_of x.written ∙ keys-set_value (is_at (cmp k)) (entries root) v) x.balanced
  whole_exchange k v v' false root' x = subst (λ t. IsWholeTree cmp t len spare) (sym x.1) w

  pub whole_changes : {F R : Type 0} (c : Mut F (MutBor V × Unit {0}) (R × (MutBor V × Unit {0}))) (k : K) (o : Option R) (f f' : F) (root' : Tree K V A) → Changes c (is_at (cmp k)) root f o f' root' → IsWholeTree cmp root' len spare
  whole_changes c k (Some r) f f' root' x = whole_kept (ap keys_of x.0.written ∙ keys-set_value (is_at (cmp k)) (entries root) x.0.left) x.1.balanced
  whole_changes c k None f f' root' x = subst (λ t. IsWholeTree cmp t len spare) (sym x.2) w

  pub whole_changes_two : {F R : Type 0} (c : Taking F V R) (b : Bool) (low high : K) (o : Option R) (f f' : F) (root' : Tree K V A) → ChangesBoth c b cmp low high root f o f' root' → IsWholeTree cmp root' len spare
  whole_changes_two c b low high (Some r) f f' root' x =
      let y = x.0 in
      whole_kept (ap keys_of y.written ∙ keys-set_value (is_at (cmp high)) (set_value (is_at (cmp low)) (entries root) y.left) y.other_left ∙ keys-set_value (is_at (cmp low)) (entries root) y.left) x.1.balanced
  whole_changes_two c b low high None f f' root' x = subst (λ t. IsWholeTree cmp t len spare) (sym x.2) w

  pub some_entry : (k : K) (v : V) → Some v ≡ lookup (is_at (cmp k)) (entries root) → 0 < len
  some_entry k v found =
      let n = length-remove_entry_found cmp k v (entries root) (sym found) in
      omega (arith, n, w.counted)

  pub whole_insert : IsTotalOrder cmp → (k : K) (v : V) → {root' : Tree K V A} {spare' : ℕ} → lookup (is_at (cmp k)) (entries root) ≡ None → IsAvl root' → entries root' ≡ insert_entry cmp (entries root) k v → spare' + 1 ≡ spare → IsWholeTree cmp root' (len + 1) spare'
  whole_insert o k v {root'} {spare'} absent avl put one_less =
      let n = length-insert_entry cmp k v (entries root) absent in
      let f = w.fits in
      record {
        balanced = avl;
        sorted = rw put (ordered-insert_entry o k v (entries root) w.sorted);
        counted = rw put (omega (arith, n, w.counted));
        fits = omega (arith, f, one_less);
      }

  pub whole_remove : (k : K) (v : V) → {root' : Tree K V A} {len' spare' : ℕ} → Some v ≡ lookup (is_at (cmp k)) (entries root) → IsAvl root' → entries root' ≡ remove_entry (is_at (cmp k)) (entries root) → len' + 1 ≡ len → spare' ≡ spare + 1 → IsWholeTree cmp root' len' spare'
  whole_remove k v found avl taken one_less one_more =
      let n = length-remove_entry_found cmp k v (entries root) (sym found) in
      let c = w.counted in
      let f = w.fits in
      record {
        balanced = avl;
        sorted = rw taken (ordered-remove_entry cmp (is_at (cmp k)) (entries root) w.sorted);
        counted = rw taken (omega (arith, n, c, one_less));
        fits = omega (arith, f, one_less, one_more);
      }

  pub whole_absent : (k : K) {root' : Tree K V A} → lookup (is_at (cmp k)) (entries root) ≡ None → IsAvl root' → entries root' ≡ remove_entry (is_at (cmp k)) (entries root) → IsWholeTree cmp root' len spare
  whole_absent k {root'} absent avl taken =
      let same = taken ∙ remove_entry-absent cmp k (entries root) absent in
      record { balanced = avl; sorted = rw same w.sorted; counted = rw same w.counted; fits = w.fits }

  pub whole_pop : {root' : Tree K V A} {len' spare' : ℕ} (e : K × V) → entries root ≡ e ∷ entries root' → IsAvl root' → len' + 1 ≡ len → spare' ≡ spare + 1 → IsWholeTree cmp root' len' spare'
  whole_pop {root'} e is avl one_less one_more =
      let c = w.counted in
      let fits = w.fits in
      let l = ap length is in
      record {
        balanced = avl;
        sorted = ordered_tail cmp e (entries root') (subst (λ es. IsOrdered cmp es) is w.sorted);
        counted = omega (arith, c, l, one_less);
        fits = omega (arith, fits, one_less, one_more);
      }

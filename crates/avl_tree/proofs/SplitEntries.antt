-- A list of entries whose keys rise, in two parts: a search for k goes on in one of them.
use Rattle.std.proofs.Common.{◌≡◌, ◌+◌, Bool, true, false, cond, List, [], ◌∷◌, ◌++◌, length, None, Some, refl, sym, ap, ◌∙◌, arith}
use Rattle.std.specs.declared.cmp.Ordering.{Ordering}
use Rattle.std.specs.declared.cmp.Ordering.TheVariants.{Less, Equal, Greater}
use Rattle.std.specs.Ordering.{match_ordering, ordering_reverse, is_eq, is_le, is_ge}
use Rattle.std.specs.Cmp.{IsTotalOrder}
use Rattle.std.specs.List.{AllByRecursion}
use Rattle.std.specs.List.Sorted.{IsStrictlySortedBy}
use Rattle.std.specs.Map.{lookup, set_value, remove_entry, keys_of}
use Rattle.std.specs.BTreeMap.{insert_entry, is_at}
use Rattle.avl_tree.specs.Nodes.{IsOrdered}

-- k is above each key
abbrev pub IsAbove : {K V : Type 0} → (K → K → Ordering) → K → List (K × V) → Type 0
IsAbove cmp k es = AllByRecursion (λ y. cmp k y ≡ Greater) (keys_of es)

-- k is below each key
abbrev pub IsBelow : {K V : Type 0} → (K → K → Ordering) → K → List (K × V) → Type 0
IsBelow cmp k es = AllByRecursion (λ y. cmp k y ≡ Less) (keys_of es)

-- a search for k skips the entries that `around` puts around a list
pub record Passes {K V : Type 0} (cmp : K → K → Ordering) (k : K) (around : List (K × V) → List (K × V)) : Type 0 where
  pub found : (m : List (K × V)) → lookup (is_at (cmp k)) (around m) ≡ lookup (is_at (cmp k)) m
  pub written : (w : V) (m : List (K × V)) → set_value (is_at (cmp k)) (around m) w ≡ around (set_value (is_at (cmp k)) m w)
  pub removed : (m : List (K × V)) → remove_entry (is_at (cmp k)) (around m) ≡ around (remove_entry (is_at (cmp k)) m)
  pub inserted : (v : V) (m : List (K × V)) → insert_entry cmp (around m) k v ≡ around (insert_entry cmp m k v)

module _ {K V : Type 0} (cmp : K → K → Ordering) (k : K) where
  pub passes_above : (l : List (K × V)) → IsAbove cmp k l → Passes cmp k (λ m. l ++ m)
  passes_above [] a = record { found = λ m. refl; written = λ w m. refl; removed = λ m. refl; inserted = λ v m. refl }
  passes_above (x ∷ l) a =
      let p = a.0 in
      let rest = passes_above l a.1 in
      record {
        found = λ m. rw p (rest.found m);
        written = λ w m. rw p (ap (λ es. x ∷ es) (rest.written w m));
        removed = λ m. rw p (ap (λ es. x ∷ es) (rest.removed m));
        inserted = λ v m. rw p (ap (λ es. x ∷ es) (rest.inserted v m));
      }

  pub passes_both : {f h : List (K × V) → List (K × V)} → Passes cmp k f → Passes cmp k h → Passes cmp k (λ m. f (h m))
  passes_both {f} {h} a b = record {
    found = λ m. a.found (h m) ∙ b.found m;
    written = λ w m. a.written w (h m) ∙ ap f (b.written w m);
    removed = λ m. a.removed (h m) ∙ ap f (b.removed m);
    inserted = λ v m. a.inserted v (h m) ∙ ap f (b.inserted v m);
  }

  pub lookup-none_below : (m : List (K × V)) → IsBelow cmp k m → lookup (is_at (cmp k)) m ≡ None
  lookup-none_below [] b = refl
  lookup-none_below (x ∷ m) b = let p = b.0 in rw p (lookup-none_below m b.1)

  set_value-below : (w : V) (m : List (K × V)) → IsBelow cmp k m → set_value (is_at (cmp k)) m w ≡ m
  set_value-below w [] b = refl
  set_value-below w (x ∷ m) b = let p = b.0 in rw p (ap (λ es. x ∷ es) (set_value-below w m b.1))

  pub remove_entry-absent : (es : List (K × V)) → lookup (is_at (cmp k)) es ≡ None → remove_entry (is_at (cmp k)) es ≡ es
  remove_entry-absent [] n = refl
  remove_entry-absent (x ∷ es) n = by (is_at (cmp k) x.0) (remove_entry-absent es) n
    where
      by : (t : Bool) → (lookup (is_at (cmp k)) es ≡ None → remove_entry (is_at (cmp k)) es ≡ es) → cond t (Some x.1) (lookup (is_at (cmp k)) es) ≡ None → cond t es (x ∷ remove_entry (is_at (cmp k)) es) ≡ x ∷ es
      by true f h = absurd (cc)
      by false f h = ap (λ r. x ∷ r) (f h)

  insert_entry-below : (v : V) (m : List (K × V)) → IsBelow cmp k m → insert_entry cmp m k v ≡ (k, v) ∷ m
  insert_entry-below v [] b = refl
  insert_entry-below v (x ∷ m) b = let p = b.0 in rw p refl

  pub passes_below : (m : List (K × V)) → IsBelow cmp k m → Passes cmp k (λ l. l ++ m)
  passes_below m b = record { found = found; written = written; removed = removed; inserted = inserted }
    where
      found : (l : List (K × V)) → lookup (is_at (cmp k)) (l ++ m) ≡ lookup (is_at (cmp k)) l
      found [] = lookup-none_below m b
      found (x ∷ l) = ap (λ o. cond (is_at (cmp k) x.0) (Some x.1) o) (found l)

      written : (w : V) (l : List (K × V)) → set_value (is_at (cmp k)) (l ++ m) w ≡ set_value (is_at (cmp k)) l w ++ m
      written w [] = set_value-below w m b
      written w (x ∷ l) =
          elim (is_at (cmp k) x.0) as (λ t. cond t ((x.0, w) ∷ (l ++ m)) (x ∷ set_value (is_at (cmp k)) (l ++ m) w) ≡ cond t ((x.0, w) ∷ l) (x ∷ set_value (is_at (cmp k)) l w) ++ m) [
            | true ↦ refl
            | false ↦ ap (λ es. x ∷ es) (written w l)
          ]

      removed : (l : List (K × V)) → remove_entry (is_at (cmp k)) (l ++ m) ≡ remove_entry (is_at (cmp k)) l ++ m
      removed [] = remove_entry-absent m (lookup-none_below m b)
      removed (x ∷ l) =
          elim (is_at (cmp k) x.0) as (λ t. cond t (l ++ m) (x ∷ remove_entry (is_at (cmp k)) (l ++ m)) ≡ cond t l (x ∷ remove_entry (is_at (cmp k)) l) ++ m) [
            | true ↦ refl
            | false ↦ ap (λ es. x ∷ es) (removed l)
          ]

      inserted : (v : V) (l : List (K × V)) → insert_entry cmp (l ++ m) k v ≡ insert_entry cmp l k v ++ m
      inserted v [] = insert_entry-below v m b
      inserted v (x ∷ l) =
          elim (cmp k x.0) as (λ o. match_ordering o ((k, v) ∷ x ∷ (l ++ m)) ((x.0, v) ∷ (l ++ m)) (x ∷ insert_entry cmp (l ++ m) k v) ≡ match_ordering o ((k, v) ∷ x ∷ l) ((x.0, v) ∷ l) (x ∷ insert_entry cmp l k v) ++ m) [
            | Less ↦ refl
            | Equal ↦ refl
            | Greater ↦ ap (λ es. x ∷ es) (inserted v l)
          ]

  -- lengths
  pub length-insert_entry : (v : V) (es : List (K × V)) → lookup (is_at (cmp k)) es ≡ None → length (insert_entry cmp es k v) ≡ length es + 1
  length-insert_entry v [] n = refl
  length-insert_entry v (x ∷ es) n = by (cmp k x.0) (length-insert_entry v es) n
    where
      by : (o : Ordering) → (lookup (is_at (cmp k)) es ≡ None → length (insert_entry cmp es k v) ≡ length es + 1) → cond (is_eq o) (Some x.1) (lookup (is_at (cmp k)) es) ≡ None → length (match_ordering o ((k, v) ∷ x ∷ es) ((x.0, v) ∷ es) (x ∷ insert_entry cmp es k v)) ≡ length (x ∷ es) + 1
      by Less f h = omega arith
      by Equal f h = absurd (cc)
      by Greater f h = omega (arith, f h)

  pub length-remove_entry_found : (v : V) (es : List (K × V)) → lookup (is_at (cmp k)) es ≡ Some v → length (remove_entry (is_at (cmp k)) es) + 1 ≡ length es
  length-remove_entry_found v [] f = absurd (cc)
  length-remove_entry_found v (x ∷ es) f = by (is_at (cmp k) x.0) (length-remove_entry_found v es) f
    where
      by : (t : Bool) → (lookup (is_at (cmp k)) es ≡ Some v → length (remove_entry (is_at (cmp k)) es) + 1 ≡ length es) → cond t (Some x.1) (lookup (is_at (cmp k)) es) ≡ Some v → length (cond t es (x ∷ remove_entry (is_at (cmp k)) es)) + 1 ≡ length (x ∷ es)
      by true f h = omega arith
      by false f h = omega (arith, f h)

-- the keys of either part rise
pub ordered_left : {K V : Type 0} (cmp : K → K → Ordering) (l m : List (K × V)) → IsOrdered cmp (l ++ m) → IsOrdered cmp l
unfolding IsStrictlySortedBy
ordered_left cmp [] m s = tt
ordered_left {K} {V} cmp (x ∷ l) m s = (front l s.0, ordered_left cmp l m s.1)
  where
    front : (l : List (K × V)) → IsBelow cmp x.0 (l ++ m) → IsBelow cmp x.0 l
    front [] a = tt
    front (z ∷ l) a = (a.0, front l a.1)

pub ordered_right : {K V : Type 0} (cmp : K → K → Ordering) (l m : List (K × V)) → IsOrdered cmp (l ++ m) → IsOrdered cmp m
unfolding IsStrictlySortedBy
ordered_right cmp [] m s = s
ordered_right cmp (x ∷ l) m s = ordered_right cmp l m s.1

pub ordered_tail : {K V : Type 0} (cmp : K → K → Ordering) (e : K × V) (m : List (K × V)) → IsOrdered cmp (e ∷ m) → IsOrdered cmp m
unfolding IsStrictlySortedBy
ordered_tail cmp e m s = s.1

pub reversed_Greater : (r : Ordering) → ordering_reverse r ≡ Greater → r ≡ Less
reversed_Greater Less h = refl
reversed_Greater Equal h = absurd (cc)
reversed_Greater Greater h = absurd (cc)

module _ {K : Type 0} {cmp : K → K → Ordering} (o : IsTotalOrder cmp) (k : K) where
  above_one : (x e : K) (r : Ordering) → r ≡ cmp k e → is_ge r ≡ true → cmp x e ≡ Less → cmp k x ≡ Greater
  above_one x e Less q high p = absurd (cc)
  above_one x e Equal q high p = o.congr k e x (sym q) ∙ o.antisymm e x ∙ ap ordering_reverse p
  above_one x e Greater q high p =
      let b = reversed_Greater (cmp e k) (sym (o.antisymm k e) ∙ sym q) in
      o.antisymm k x ∙ ap ordering_reverse (o.trans x e k p b)

  below_one : (e x : K) (r : Ordering) → r ≡ cmp k e → is_le r ≡ true → cmp e x ≡ Less → cmp k x ≡ Less
  below_one e x Less q low p = o.trans k e x (sym q) p
  below_one e x Equal q low p = o.congr k e x (sym q) ∙ p
  below_one e x Greater q low p = absurd (cc)

module _ {K V : Type 0} {cmp : K → K → Ordering} (o : IsTotalOrder cmp) (k : K) where
  -- the keys before e are below k, if e is no higher
  pub above_front : (l : List (K × V)) (e : K × V) (r : List (K × V)) (c : Ordering) → IsOrdered cmp (l ++ e ∷ r) → c ≡ cmp k e.0 → is_ge c ≡ true → IsAbove cmp k l
  unfolding IsStrictlySortedBy
  above_front [] e r c s q high = tt
  above_front (x ∷ l) e r c s q high = (above_one o k x.0 e.0 c q high (first l s.0), above_front l e r c s.1 q high)
    where
      first : (l : List (K × V)) → IsBelow cmp x.0 (l ++ e ∷ r) → cmp x.0 e.0 ≡ Less
      first [] a = a.0
      first (z ∷ l) a = first l a.1

  below_rest : (e : K × V) (r : List (K × V)) (c : Ordering) → IsBelow cmp e.0 r → c ≡ cmp k e.0 → is_le c ≡ true → IsBelow cmp k r
  below_rest e [] c a q low = tt
  below_rest e (x ∷ r) c a q low = (below_one o k e.0 x.0 c q low a.0, below_rest e r c a.1 q low)

  -- the keys after e are above k, if e is no lower
  pub below_back : (l : List (K × V)) (e : K × V) (r : List (K × V)) (c : Ordering) → IsOrdered cmp (l ++ e ∷ r) → c ≡ cmp k e.0 → is_le c ≡ true → IsBelow cmp k r
  unfolding IsStrictlySortedBy
  below_back l e r c s q low = below_rest e r c (ordered_right cmp l (e ∷ r) s).0 q low

  -- the keys still rise after a change
  ahead_insert : (v : V) (x : K) (es : List (K × V)) → IsBelow cmp x es → cmp x k ≡ Less → IsBelow cmp x (insert_entry cmp es k v)
  ahead_insert v x [] a p = (p, tt)
  ahead_insert v x (e ∷ es) a p =
      elim (cmp k e.0) as (λ r. IsBelow cmp x (match_ordering r ((k, v) ∷ e ∷ es) ((e.0, v) ∷ es) (e ∷ insert_entry cmp es k v))) [
        | Less ↦ (p, a)
        | Equal ↦ a
        | Greater ↦ (a.0, ahead_insert v x es a.1 p)
      ]

  insert_cases : (v : V) (e : K × V) (es : List (K × V)) (r : Ordering) → r ≡ cmp k e.0 → IsOrdered cmp (e ∷ es) → IsOrdered cmp (insert_entry cmp es k v) → IsOrdered cmp (match_ordering r ((k, v) ∷ e ∷ es) ((e.0, v) ∷ es) (e ∷ insert_entry cmp es k v))
  unfolding IsStrictlySortedBy
  insert_cases v e es Less h s f = ((sym h, below_rest e es Less s.0 h refl), s)
  insert_cases v e es Equal h s f = s
  insert_cases v e es Greater h s f = (ahead_insert v e.0 es s.0 (o.antisymm e.0 k ∙ ap ordering_reverse (sym h)), f)

  pub ordered-insert_entry : (v : V) (es : List (K × V)) → IsOrdered cmp es → IsOrdered cmp (insert_entry cmp es k v)
  unfolding IsStrictlySortedBy
  ordered-insert_entry v [] s = (tt, tt)
  ordered-insert_entry v (e ∷ es) s = insert_cases v e es (cmp k e.0) refl s (ordered-insert_entry v es s.1)

ahead_remove : {K V : Type 0} (cmp : K → K → Ordering) (test : K → Bool) (k : K) (es : List (K × V)) → IsBelow cmp k es → IsBelow cmp k (remove_entry test es)
ahead_remove cmp test k [] a = tt
ahead_remove cmp test k (x ∷ es) a =
    elim (test x.0) as (λ t. IsBelow cmp k (cond t es (x ∷ remove_entry test es))) [
      | true ↦ a.1
      | false ↦ (a.0, ahead_remove cmp test k es a.1)
    ]

pub ordered-remove_entry : {K V : Type 0} (cmp : K → K → Ordering) (test : K → Bool) (es : List (K × V)) → IsOrdered cmp es → IsOrdered cmp (remove_entry test es)
unfolding IsStrictlySortedBy
ordered-remove_entry cmp test [] s = tt
ordered-remove_entry cmp test (e ∷ es) s =
    elim (test e.0) as (λ t. IsOrdered cmp (cond t es (e ∷ remove_entry test es))) [
      | true ↦ s.1
      | false ↦ (ahead_remove cmp test e.0 es s.0, ordered-remove_entry cmp test es s.1)
    ]

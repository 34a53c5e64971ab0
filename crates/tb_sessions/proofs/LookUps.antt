-- What lookups by number find after each change, and what holds of all that they find.
use Rattle.std.proofs.Common.{◌≡◌, ◌≢◌, ℕ, ◌<◌, ◌≤◌, Bool, true, false, cond, eqb, ◌⊎◌, inl, inr, List, [], ◌∷◌, Option, Some, None, refl, sym, ap, ◌∙◌, subst, arith}
use Rattle.std.proofs.lemmas.Bool.Decides.{nat_tests}
use Rattle.std.specs.declared.cmp.Ordering.{Ordering}
use Rattle.std.specs.declared.cmp.Ordering.TheVariants.{Less, Equal, Greater}
use Rattle.std.specs.Ordering.{match_ordering, nat_cmp, is_eq}
use Rattle.std.specs.Cmp.{IsTotalOrder, eq_by_cmp_equiv, alike_right, tied_itself, nat_cmp_total}
use Rattle.std.specs.List.{AllByRecursion}
use Rattle.std.specs.List.Sorted.{IsStrictlySortedBy}
use Rattle.std.specs.Map.{lookup, set_value, remove_entry, keys_of, values_of}
use Rattle.std.specs.BTreeMap.{insert_entry, is_at}
use Rattle.std.proofs.lemmas.Map.{lookup-set_value, lookup-remove_entry}
use Rattle.std.proofs.lemmas.Map.Keys.{IsDistinct-from_sorted}
use Rattle.avl_tree.proofs.SplitEntries.{lookup-none_below}
use Rattle.tb_records.specs.Ordered.{Each}
use Rattle.tb_records.proofs.Entries.{eq-number}

pub decide : (q k : ℕ) → (q ≡ k) ⊎ (q ≢ k)
decide q k = by (eqb q k) refl
  where
    by : (b : Bool) → eqb q k ≡ b → (q ≡ k) ⊎ (q ≢ k)
    by true e = inl (grind (arith, nat_tests))
    by false e = inr (λ same. grind (arith, nat_tests))

pub at_itself : (k : ℕ) → is_at (nat_cmp k) k ≡ true
at_itself k = ap is_eq (tied_itself nat_cmp_total k)

pub not_at : (q k : ℕ) → q ≢ k → is_at (nat_cmp k) q ≡ false
not_at q k n = eq-number k q ∙ by (eqb q k) refl
  where
    by : (b : Bool) → eqb q k ≡ b → eqb q k ≡ false
    by true e = absurd (n (grind (arith, nat_tests)))
    by false e = e

one : (k x y : ℕ) → is_at (nat_cmp k) x ≡ true → is_at (nat_cmp k) y ≡ is_at (nat_cmp x) y
one k x y p = (eq_by_cmp_equiv nat_cmp_total).congr k x y p

-- what is found by number, once nothing is at k, or v is
pub record GoneAt {X : Type 0} (k : ℕ) (f f' : ℕ → Option X) : Type 0 where
  pub here : f' k ≡ None
  pub others : (q : ℕ) → q ≢ k → f' q ≡ f q

pub record PutAt {X : Type 0} (k : ℕ) (v : X) (f f' : ℕ → Option X) : Type 0 where
  pub here : f' k ≡ Some v
  pub others : (q : ℕ) → q ≢ k → f' q ≡ f q

abbrev pub number_at : {X : Type 0} → List (ℕ × X) → ℕ → Option X
number_at es k = lookup (is_at (nat_cmp k)) es

module _ {K X : Type 0} {cmp : K → K → Ordering} (o : IsTotalOrder cmp) (k : K) (v : X) where
  inserted-here : (es : List (K × X)) → lookup (is_at (cmp k)) (insert_entry cmp es k v) ≡ Some v
  inserted-here [] = let p = tied_itself o k in rw p refl
  inserted-here (e ∷ es) = by (cmp k e.0) refl (inserted-here es)
    where
      by : (r : Ordering) → cmp k e.0 ≡ r → lookup (is_at (cmp k)) (insert_entry cmp es k v) ≡ Some v → lookup (is_at (cmp k)) (match_ordering r ((k, v) ∷ e ∷ es) ((e.0, v) ∷ es) (e ∷ insert_entry cmp es k v)) ≡ Some v
      by Less p later = let q = tied_itself o k in rw q refl
      by Equal p later = rw p refl
      by Greater p later = rw p later

  inserted-other : (q : K) → is_eq (cmp q k) ≡ false → (es : List (K × X)) → lookup (is_at (cmp q)) (insert_entry cmp es k v) ≡ lookup (is_at (cmp q)) es
  inserted-other q n [] = rw n refl
  inserted-other q n (e ∷ es) = by (cmp k e.0) refl (inserted-other q n es)
    where
      by : (r : Ordering) → cmp k e.0 ≡ r → lookup (is_at (cmp q)) (insert_entry cmp es k v) ≡ lookup (is_at (cmp q)) es → lookup (is_at (cmp q)) (match_ordering r ((k, v) ∷ e ∷ es) ((e.0, v) ∷ es) (e ∷ insert_entry cmp es k v)) ≡ lookup (is_at (cmp q)) (e ∷ es)
      by Less p later = rw n refl
      by Equal p later = let m : is_eq (cmp q e.0) ≡ false = ap is_eq (sym (alike_right o k e.0 q p)) ∙ n in rw m refl
      by Greater p later = ap (λ found. cond (is_eq (cmp q e.0)) (Some e.1) found) later

module _ {X : Type 0} (k : ℕ) (es : List (ℕ × X)) {es' : List (ℕ × X)} where
  pub removed : es' ≡ remove_entry (is_at (nat_cmp k)) es → IsStrictlySortedBy nat_cmp (keys_of es) → GoneAt k (number_at es) (number_at es')
  removed is s = rw is (record {
    here = found k ∙ ap (λ b. cond b None (number_at es k)) (at_itself k);
    others = λ q n. found q ∙ ap (λ b. cond b None (number_at es q)) (not_at q k n);
  })
    where
      found : (q : ℕ) → number_at (remove_entry (is_at (nat_cmp k)) es) q ≡ cond (is_at (nat_cmp k) q) None (number_at es q)
      found q = lookup-remove_entry (eq_by_cmp_equiv nat_cmp_total) (is_at (nat_cmp k)) (one k) q es (IsDistinct-from_sorted nat_cmp (keys_of es) s)

  pub written : (v w : X) → es' ≡ set_value (is_at (nat_cmp k)) es v → number_at es k ≡ Some w → PutAt k v (number_at es) (number_at es')
  written v w is was = rw is (record {
    here = found k ∙ ap (λ b. cond b (Some v) (number_at es k)) (at_itself k);
    others = λ q n. found q ∙ ap (λ b. cond b (Some v) (number_at es q)) (not_at q k n);
  })
    where
      found : (q : ℕ) → number_at (set_value (is_at (nat_cmp k)) es v) q ≡ cond (is_at (nat_cmp k) q) (Some v) (number_at es q)
      found q = lookup-set_value (eq_by_cmp_equiv nat_cmp_total) (is_at (nat_cmp k)) (one k) q v es (rw was refl)

  pub inserted : (v : X) → es' ≡ insert_entry nat_cmp es k v → PutAt k v (number_at es) (number_at es')
  inserted v is = rw is (record {
    here = inserted-here nat_cmp_total k v es;
    others = λ q n. inserted-other nat_cmp_total k v q (not_at k q (λ same. n (sym same))) es;
  })

-- number y is above x
pub less_is : (x y : ℕ) → nat_cmp x y ≡ Less → x < y
less_is x y p = grind (arith, nat_tests)

beyond : {X : Type 0} (x d : ℕ) (j : X) (es : List (ℕ × X)) → AllByRecursion (λ y. nat_cmp x y ≡ Less) (keys_of es) → lookup (is_at (nat_cmp d)) es ≡ Some j → x < d
beyond x d j [] all found = absurd (cc)
beyond x d j (e ∷ es) all found = by (eqb e.0 d) refl (beyond x d j es all.1) (sym (ap (λ b. cond b (Some e.1) (lookup (is_at (nat_cmp d)) es)) (eq-number d e.0)) ∙ found)
  where
    by : (b : Bool) → eqb e.0 d ≡ b → (lookup (is_at (nat_cmp d)) es ≡ Some j → x < d) → cond b (Some e.1) (lookup (is_at (nat_cmp d)) es) ≡ Some j → x < d
    by true same later found = let l = less_is x e.0 all.0 in grind (arith, nat_tests)
    by false other later found = later found

-- the first key is the least
pub first_least : {X : Type 0} (e : ℕ × X) (es : List (ℕ × X)) (d : ℕ) (j : X) → IsStrictlySortedBy nat_cmp (keys_of (e ∷ es)) → lookup (is_at (nat_cmp d)) (e ∷ es) ≡ Some j → e.0 ≤ d
unfolding IsStrictlySortedBy
first_least e es d j s found = by (eqb e.0 d) refl (sym (ap (λ b. cond b (Some e.1) (lookup (is_at (nat_cmp d)) es)) (eq-number d e.0)) ∙ found)
  where
    by : (b : Bool) → eqb e.0 d ≡ b → cond b (Some e.1) (lookup (is_at (nat_cmp d)) es) ≡ Some j → e.0 ≤ d
    by true same found = grind (arith, nat_tests)
    by false other found = let l = beyond e.0 d j es s.0 found in omega arith

-- what holds of each value that is found holds of each value
pub each_found : {X : Type 0} (P : X → Type 0) (es : List (ℕ × X)) → IsStrictlySortedBy nat_cmp (keys_of es) → ((k : ℕ) (x : X) → lookup (is_at (nat_cmp k)) es ≡ Some x → P x) → Each P (values_of es)
unfolding IsStrictlySortedBy
each_found P [] s holds = tt
each_found {X} P (e ∷ es) s holds = (
  holds e.0 e.1 (ap (λ b. cond b (Some e.1) (lookup (is_at (nat_cmp e.0)) es)) (at_itself e.0)),
  each_found P es s.1 (λ k x found. holds k x (elim (decide e.0 k) [
    | inl same ↦ absurd (let none : lookup (is_at (nat_cmp k)) es ≡ None = subst (λ n. lookup (is_at (nat_cmp n)) es ≡ None) same (lookup-none_below nat_cmp e.0 es s.0) in cc)
    | inr other ↦ ap (λ b. cond b (Some e.1) (lookup (is_at (nat_cmp k)) es)) (not_at e.0 k other) ∙ found
  ])),
)

-- The pairs of a tree, as rows by a number that its keys represent.
use Rattle.std.proofs.Common.{◌≡◌, ℕ, cond, eqb, ◌==◌, List, [], ◌∷◌, map, find, is_some, Some, None, refl, sym, ap, ◌∙◌, arith}
use Rattle.std.proofs.lemmas.Bool.Decides.{nat_tests}
use Rattle.std.specs.declared.cmp.Ordering.{Ordering}
use Rattle.std.specs.Ordering.{nat_cmp, is_eq}
use Rattle.std.specs.Map.{lookup, set_value, remove_entry, values_of}
use Rattle.std.specs.BTreeMap.{insert_entry, is_at}
use Rattle.tb_records.specs.Ordered.{put, replaced, taken_out, Each}
use Rattle.tb_records.proofs.ByKey.{each-map}

pub eq-number : (n y : ℕ) → is_eq (nat_cmp n y) ≡ eqb y n
eq-number n y = grind (arith, nat_tests)

module _ {K V X : Type 0} (cmp : K → K → Ordering) (row : K × V → X) (key : X → ℕ) (k : K) (n : ℕ) where
  -- a key of the tree compares to k as its row's number to n
  abbrev pub Agrees : K × V → Type 0
  Agrees e = cmp k e.0 ≡ nat_cmp n (key (row e))

  pub passes-number : (e : K × V) → Agrees e → is_at (cmp k) e.0 ≡ eqb (key (row e)) n
  passes-number e agrees = ap is_eq agrees ∙ eq-number n (key (row e))

  pub seen : (es : List (K × V)) → Each Agrees es → is_some (lookup (is_at (cmp k)) es) ≡ is_some (find (λ x. key x == n) (map row es))
  seen [] agree = refl
  seen (e ∷ es) agree = let passes = passes-number e agree.0 in grind (arith, seen es agree.1)

  pub unseen : (es : List (K × V)) → Each Agrees es → find (λ x. key x == n) (map row es) ≡ None → lookup (is_at (cmp k)) es ≡ None
  unseen es agree none = grind (arith, seen es agree)

  pub rows-removed : (es : List (K × V)) → Each Agrees es → map row (remove_entry (is_at (cmp k)) es) ≡ taken_out key n (map row es)
  rows-removed [] agree = refl
  rows-removed (e ∷ es) agree = let passes = passes-number e agree.0 in grind (arith, rows-removed es agree.1)

  pub rows-inserted : (v : V) (es : List (K × V)) → key (row (k, v)) ≡ n → Each Agrees es → find (λ x. key x == n) (map row es) ≡ None → map row (insert_entry cmp es k v) ≡ put key (row (k, v)) (map row es)
  rows-inserted v [] own agree none = refl
  rows-inserted v (e ∷ es) own agree none =
      let compared = agree.0 in
      grind (arith, nat_tests, rows-inserted v es own agree.1)

-- rows that are at their own keys
module _ {V : Type 0} (key : V → ℕ) where
  abbrev pub Own : ℕ × V → Type 0
  Own e = key e.1 ≡ e.0

  pub own-agrees : (k : ℕ) (es : List (ℕ × V)) → Each Own es → Each (Agrees nat_cmp (λ e. e.1) key k k) es
  own-agrees k es own = each-map Own (Agrees nat_cmp (λ e. e.1) key k k) es (λ e is. ap (nat_cmp k) (sym is)) own

  pub found-row : (k : ℕ) (es : List (ℕ × V)) → Each Own es → lookup (is_at (nat_cmp k)) es ≡ find (λ row. key row == k) (values_of es)
  found-row k [] own = refl
  found-row k (e ∷ es) own = rw (passes-number nat_cmp (λ e. e.1) key k k e (ap (nat_cmp k) (sym own.0))) (ap (λ o. cond (eqb (key e.1) k) (Some e.1) o) (found-row k es own.1))

  pub rows-replaced : (v : V) (k : ℕ) (es : List (ℕ × V)) → key v ≡ k → Each Own es → values_of (set_value (is_at (nat_cmp k)) es v) ≡ replaced key v (values_of es)
  rows-replaced v k [] is own = refl
  rows-replaced v k (e ∷ es) is own =
      let passes = passes-number nat_cmp (λ e. e.1) key k k e (ap (nat_cmp k) (sym own.0)) in
      grind (arith, rows-replaced v k es is own.1)

  pub own-replaced : (v : V) (k : ℕ) (es : List (ℕ × V)) → key v ≡ k → Each Own es → Each Own (set_value (is_at (nat_cmp k)) es v)
  own-replaced v k [] is own = tt
  own-replaced v k (e ∷ es) is own =
      let passes = passes-number nat_cmp (λ e. e.1) key k k e (ap (nat_cmp k) (sym own.0)) in
      grind (arith, nat_tests, own-replaced v k es is own.1)

  pub own-inserted : (v : V) (k : ℕ) (es : List (ℕ × V)) → key v ≡ k → Each Own es → Each Own (insert_entry nat_cmp es k v)
  own-inserted v k [] is own = (is, tt)
  own-inserted v k (e ∷ es) is own = grind (arith, nat_tests, own-inserted v k es is own.1)

  pub own-removed : (k : ℕ) (es : List (ℕ × V)) → Each Own es → Each Own (remove_entry (is_at (nat_cmp k)) es)
  own-removed k [] own = tt
  own-removed k (e ∷ es) own = grind (arith, own-removed k es own.1)

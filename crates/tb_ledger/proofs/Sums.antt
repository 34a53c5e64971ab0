-- Sums over records.
use Rattle.tb_ledger.proofs.Common.{◌≡◌, ℕ, ◌+◌, ◌≤◌, Bool, true, false, cond, List, [], ◌∷◌, find, sum_by, Some, refl, ap, arith, sum_by-cons, sum_by-le-sum_by, Each}

-- less by n at a record that is found, and nowhere more
pub sum_by-less : {X : Type 0} (f g : X → ℕ) (n : ℕ) (q : X → Bool) (p : X) (xs : List X) → ((x : X) → f x ≤ g x) → f p + n ≤ g p → find q xs ≡ Some p → sum_by f xs + n ≤ sum_by g xs
sum_by-less f g n q p [] least less found = absurd (cc)
sum_by-less f g n q p (x ∷ xs) least less found = by (q x) (sum_by-less f g n q p xs least less) found
  where
    by : (b : Bool) → (find q xs ≡ Some p → sum_by f xs + n ≤ sum_by g xs) → cond b (Some x) (find q xs) ≡ Some p → sum_by f (x ∷ xs) + n ≤ sum_by g (x ∷ xs)
    by true later is =
        let same : x ≡ p = cc in
        omega (arith, sum_by-cons f x xs, sum_by-cons g x xs, sum_by-le-sum_by f g xs least, ap f same, ap g same)
    by false later is = omega (arith, sum_by-cons f x xs, sum_by-cons g x xs, later is, least x)

-- shares of nothing
pub sum_by-none : {X : Type 0} (f : X → ℕ) (xs : List X) → Each (λ x. f x ≡ 0) xs → sum_by f xs ≡ 0
sum_by-none f [] each = refl
sum_by-none f (x ∷ xs) each = let here : f x ≡ 0 = each.0 in omega (arith, sum_by-cons f x xs, sum_by-none f xs each.1)

-- equal shares, whatever the record
pub sum_by-equal : {X : Type 0} (f g : X → ℕ) (xs : List X) → ((x : X) → f x ≡ g x) → sum_by f xs ≡ sum_by g xs
sum_by-equal f g [] same = refl
sum_by-equal f g (x ∷ xs) same = omega (arith, sum_by-cons f x xs, sum_by-cons g x xs, sum_by-equal f g xs same, same x)

-- a sum of two shares each
pub sum_by-add : {X : Type 0} (f g : X → ℕ) (xs : List X) → sum_by (λ x. f x + g x) xs ≡ sum_by f xs + sum_by g xs
sum_by-add f g [] = omega arith
sum_by-add f g (x ∷ xs) = omega (arith, sum_by-cons f x xs, sum_by-cons g x xs, sum_by-cons (λ x. f x + g x) x xs, sum_by-add f g xs)

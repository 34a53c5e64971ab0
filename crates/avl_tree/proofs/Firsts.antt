-- The first pairs of a tree, if a walk has the pairs xs to the left of a node, e at it, and ys to its right.
use Rattle.std.proofs.Common.{◌≡◌, ℕ, zero, suc, ◌-◌, ◌<◌, ◌≤◌, List, [], ◌∷◌, ◌++◌, length, take, refl, sym, ap, ◌∙◌, arith, length-append}
use Rattle.std.proofs.lemmas.List.{take-append-le}

module _ {E : Type 0} (e : E) (ys : List E) where
  pub take_past : (n : ℕ) (xs : List E) → length xs < n → take n (xs ++ e ∷ ys) ≡ take n xs ++ e ∷ take (n - length xs - 1) ys
  take_past zero xs p = absurd (omega (arith, p))
  take_past (suc n) [] p =
      let on : suc n - 0 - 1 ≡ n = omega arith in
      ap (λ k. e ∷ take k ys) (sym on)
  take_past (suc n) (x ∷ xs) p =
      let on : suc n - suc (length xs) - 1 ≡ n - length xs - 1 = omega arith in
      ap (λ l. x ∷ l) (take_past n xs (omega (arith, p)) ∙ ap (λ k. take n xs ++ e ∷ take k ys) (sym on))

  -- the left side has n pairs or more
  pub take_left : (n : ℕ) (xs : List E) → n - length xs ≡ 0 → take n (xs ++ e ∷ ys) ≡ take n xs
  take_left n xs p =
      let le : n ≤ length xs = omega (arith, p) in
      rw take-append-le refl

  pub none_left : (n : ℕ) (xs : List E) → n - length xs ≡ 0 → 0 ≡ n - length (xs ++ e ∷ ys)
  none_left n xs p =
      let l = length-append xs (e ∷ ys) in
      omega (arith, p, l)

  pub left_past : (n k : ℕ) (xs : List E) → k ≡ n - length xs → k - 1 - length ys ≡ n - length (xs ++ e ∷ ys)
  left_past n k xs p =
      let l = length-append xs (e ∷ ys) in
      omega (arith, p, l)

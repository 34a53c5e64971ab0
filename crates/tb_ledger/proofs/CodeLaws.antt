-- The list of results: what it is of codes put together, and how long it is.
use Rattle.tb_ledger.proofs.Common.{◌≡◌, ℕ, suc, zero, ◌+◌, ◌-◌, ◌<◌, ◌≤◌, ◌==◌, true, false, not, List, [], ◌∷◌, ◌++◌, map, filter, length, replicate, take, drop, if◌then◌else◌, refl, sym, ap, ◌∙◌, append_assoc, arith, enumerate_from, nat_tests, length-replicate, length-drop, take-length, EventResult, results_from}

abbrev entry : ℕ × ℕ → EventResult
entry x = record { index = x.0; result = x.1 }

-- the codes that aren't 0, with their indexes
abbrev numbered : ℕ → List ℕ → List (ℕ × ℕ)
numbered p xs = filter (λ x. not (x.1 == 0)) (enumerate_from p xs)

pub results-append : (p : ℕ) (xs ys : List ℕ) → results_from p (xs ++ ys) ≡ results_from p xs ++ results_from (p + length xs) ys
results-append p [] ys = let e : p + 0 ≡ p = omega arith in rw e refl
results-append p (x ∷ xs) ys =
    let e : p + 1 + length xs ≡ p + length (x ∷ xs) = omega arith in
    let later : results_from (p + 1) (xs ++ ys) ≡ results_from (p + 1) xs ++ results_from (p + length (x ∷ xs)) ys = results-append (p + 1) xs ys ∙ ap (λ n. results_from (p + 1) xs ++ results_from n ys) e in
    elim (x == 0) as (λ b. map entry (if not b then (p, x) ∷ numbered (p + 1) (xs ++ ys) else numbered (p + 1) (xs ++ ys)) ≡ map entry (if not b then (p, x) ∷ numbered (p + 1) xs else numbered (p + 1) xs) ++ results_from (p + length (x ∷ xs)) ys) [
      | true ↦ later
      | false ↦ ap (λ rs. entry (p, x) ∷ rs) later
    ]

-- a code more that isn't 0 is a result more
pub results-one : (p x : ℕ) (xs : List ℕ) → (x == 0) ≡ false → results_from p (x ∷ xs) ≡ record { index = p; result = x } ∷ results_from (p + 1) xs
results-one p x xs e = rw e refl

-- accepted events have no results
pub results-none : (p n : ℕ) → results_from p (replicate n 0) ≡ []
results-none p zero = refl
results-none p (suc n) = results-none (p + 1) n

pub length-results_from : (p : ℕ) (xs : List ℕ) → length (results_from p xs) ≤ length xs
length-results_from p [] = omega arith
length-results_from p (x ∷ xs) =
    let later : length (results_from (p + 1) xs) ≤ length xs = length-results_from (p + 1) xs in
    elim (x == 0) as (λ b. length (map entry (if not b then (p, x) ∷ numbered (p + 1) xs else numbered (p + 1) xs)) ≤ suc (length xs)) [
      | true ↦ omega (arith, later)
      | false ↦ omega (arith, later)
    ]

-- a result is pushed, and what is left to push starts at the next index
pub pushed : (before after rest all : List EventResult) (r : EventResult) → after ≡ before ++ (r ∷ []) → before ++ (r ∷ rest) ≡ all → after ++ rest ≡ all
pushed before after rest all r after_is ahead = ap (λ items. items ++ rest) after_is ∙ append_assoc before (r ∷ []) rest ∙ ahead

pub failed-step : (p j n : ℕ) → j < n → results_from (p + j) (replicate (n - j) 1) ≡ record { index = p + j; result = 1 } ∷ results_from (p + (j + 1)) (replicate (n - (j + 1)) 1)
failed-step p j n within =
    let left : n - j ≡ suc (n - (j + 1)) = omega arith in
    let next : p + j + 1 ≡ p + (j + 1) = omega arith in
    ap (λ k. results_from (p + j) (replicate k 1)) left ∙ ap (λ k. record { index = p + j; result = 1 } ∷ results_from k (replicate (n - (j + 1)) 1)) next

-- the results of a broken chain, pushed in three steps
pub broken-results : (items failed one all : List EventResult) (p place code : ℕ) (codes : List ℕ) → (code ≡ 0 → ⊥)
    → failed ≡ items ++ results_from p (replicate place 1)
    → one ≡ failed ++ (record { index = p + place; result = code } ∷ [])
    → all ≡ one ++ results_from (p + place + 1) codes
    → all ≡ items ++ results_from p (replicate place 1 ++ code ∷ codes)
broken-results items failed one all p place code codes refused failed_is one_is all_is =
    let some : (code == 0) ≡ false = grind (arith, nat_tests) in
    let r : EventResult = record { index = p + place; result = code } in
    let ones = results_from p (replicate place 1) in
    let place_is : p + length (replicate place 1) ≡ p + place = omega (arith, length-replicate {A = ℕ} place 1) in
    let split : results_from p (replicate place 1 ++ code ∷ codes) ≡ ones ++ (r ∷ results_from (p + place + 1) codes) =
    results-append p (replicate place 1) (code ∷ codes) ∙ ap (λ n. ones ++ results_from n (code ∷ codes)) place_is ∙ ap (λ rs. ones ++ rs) (results-one (p + place) code codes some) in
    all_is ∙ pushed failed one (results_from (p + place + 1) codes) _ r one_is
    (ap (λ f. f ++ (r ∷ results_from (p + place + 1) codes)) failed_is ∙ append_assoc items ones (r ∷ results_from (p + place + 1) codes) ∙ ap (λ rs. items ++ rs) (sym split))

-- a slice from a place to the end
pub rest-whole : {X : Type 0} (xs : List X) (n : ℕ) → take (length xs - n) (drop n xs) ≡ drop n xs
rest-whole xs n =
    let e : length xs - n ≡ length (drop n xs) = omega (arith, length-drop n xs) in
    ap (λ k. take k (drop n xs)) e ∙ take-length (drop n xs)

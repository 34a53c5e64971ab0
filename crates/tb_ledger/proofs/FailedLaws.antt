-- The ids that failed permanently.
use Rattle.tb_ledger.proofs.Common.{◌≡◌, ℕ, ◌==◌, ◌&&◌, Bool, true, false, not, List, [], ◌∷◌, find, is_some, Option, Some, None, Result, Ok, Err, IfErr, if◌then◌else◌, refl, sym, ap, ◌∙◌, list_any, option_map_or, and_parts, Transfer, Books, resolves, transfer_at, CreateTransferResult, transfer_result_code, is_final, Judges, Test, first_of, first_code, transfer_own_tests, transfer_exists_tests, filled, resolve_code, single_code, transfer_verdict}
use Rattle.tb_ledger.proofs.VerdictLaws.{any-found}

-- no test fails a transfer permanently
abbrev never : List Test → Bool
never [] = true
never (test ∷ tests) = not (is_final test.0) && never tests

never_final : (tests : List Test) → never tests ≡ true → is_final (first_of tests) ≡ false
never_final [] is = refl
never_final (test ∷ tests) is = by test.1 (and_parts (not (is_final test.0)) (never tests) is) (never_final tests)
  where
    passes : (b : Bool) → not b ≡ true → b ≡ false
    passes true e = absurd (cc)
    passes false e = refl

    by : (b : Bool) → (not (is_final test.0) ≡ true) × (never tests ≡ true) → (never tests ≡ true → is_final (first_of tests) ≡ false) → is_final (if b then test.0 else first_of tests) ≡ false
    by true parts later = passes (is_final test.0) parts.0
    by false parts later = later parts.1

-- if the id has failed before, the verdict is not a final one
before : (a b d : ℕ) → is_final a ≡ false → is_final b ≡ false → is_final (first_code (first_code (a ∷ b ∷ 68 ∷ []) ∷ d ∷ [])) ≡ false
before a b d a_is b_is = by (a == 0) refl (b == 0) refl
  where
    by : (x : Bool) → (a == 0) ≡ x → (y : Bool) → (b == 0) ≡ y → is_final (first_code ((if x then (if y then 68 else b) else a) ∷ d ∷ [])) ≡ false
    by true e true f = refl
    by true e false f = rw f b_is
    by false e y f = rw e a_is

there_final : (o : Option Transfer) (f : Transfer) → is_final (first_of (transfer_exists_tests o f)) ≡ false
there_final None f = refl
there_final (Some e) f = never_final (transfer_exists_tests (Some e) f) refl

-- a transfer that fails permanently has not failed before
pub final_is_new : (B : Books) (t : Transfer) (time code : ℕ) → code ≡ transfer_verdict B t time → is_final code ≡ true → option_map_or (list_any (λ id. id == t.id)) B.failed false ≡ false
final_is_new B t time code code_is final = by (option_map_or (list_any (λ id. id == t.id)) B.failed false) (sym (ap is_final code_is) ∙ final)
  where
    by : (b : Bool) → is_final (first_code (first_code (first_of (transfer_own_tests t) ∷ first_of (transfer_exists_tests (transfer_at B t.id) (filled B t)) ∷ first_of ((68, b) ∷ []) ∷ []) ∷ (if resolves t then resolve_code B t else single_code B t time) ∷ [])) ≡ true → b ≡ false
    by false h = refl
    by true h =
        let free = before (first_of (transfer_own_tests t)) (first_of (transfer_exists_tests (transfer_at B t.id) (filled B t))) (if resolves t then resolve_code B t else single_code B t time)
        (never_final (transfer_own_tests t) refl) (there_final (transfer_at B t.id) (filled B t)) in
        absurd (cc)

-- as a function returns it
pub refusal_is_new : {X : Type 0} (B : Books) (t : Transfer) (time : ℕ) (r : Result X CreateTransferResult) → Judges transfer_result_code r (transfer_verdict B t time)
    → IfErr r (λ refusal. is_final (transfer_result_code refusal) ≡ true → option_map_or (list_any (λ id. id == t.id)) B.failed false ≡ false)
refusal_is_new B t time (Ok x) is = tt
refusal_is_new B t time (Err refusal) is = final_is_new B t time (transfer_result_code refusal) (sym is.0)

-- an id that is not one of some ids is not found among them
pub absent : (ids : List ℕ) (keeps : Bool) (id : ℕ) → keeps ≡ true → option_map_or (list_any (λ k. k == id)) (if keeps then Some ids else None) false ≡ false → find (λ k. k == id) ids ≡ None
absent ids keeps id kept new = by (find (λ k. k == id) ids) (sym (any-found (λ k. k == id) ids) ∙ sym (ap (λ b. option_map_or (list_any (λ k. k == id)) (if b then Some ids else None) false) kept) ∙ new)
  where
    by : (o : Option ℕ) → is_some o ≡ false → o ≡ None
    by None e = refl
    by (Some k) e = absurd (cc)

-- What a table knows of its keys.
use Rattle.tb_ledger.proofs.Common.{◌≡◌, ◌≢◌, ℕ, ◌<◌, map, Bool, cond, eqb, ◌==◌, ltb, ◌&&◌, ◌||◌, get_or, length, true, false, List, [], ◌∷◌, find, is_some, Option, Some, None, subst, sym, refl, ◌∙◌, arith, nat_tests, false≢true, list_any, put, replaced, Each, each-map, each-all, each-both, each-put, none-found, none-fails, AbsentIds, MayBeKey, unfound, without_id}

-- a list of eight
pub eight : {X : Type 0} (d : X) (xs : List X) → length xs ≡ 8 → xs ≡ get_or xs 0 d ∷ get_or xs 1 d ∷ get_or xs 2 d ∷ get_or xs 3 d ∷ get_or xs 4 d ∷ get_or xs 5 d ∷ get_or xs 6 d ∷ get_or xs 7 d ∷ []
eight z [] is = absurd (omega (arith, is))
eight z (a ∷ []) is = absurd (omega (arith, is))
eight z (a ∷ b ∷ []) is = absurd (omega (arith, is))
eight z (a ∷ b ∷ c ∷ []) is = absurd (omega (arith, is))
eight z (a ∷ b ∷ c ∷ d ∷ []) is = absurd (omega (arith, is))
eight z (a ∷ b ∷ c ∷ d ∷ e ∷ []) is = absurd (omega (arith, is))
eight z (a ∷ b ∷ c ∷ d ∷ e ∷ f ∷ []) is = absurd (omega (arith, is))
eight z (a ∷ b ∷ c ∷ d ∷ e ∷ f ∷ g ∷ []) is = absurd (omega (arith, is))
eight z (a ∷ b ∷ c ∷ d ∷ e ∷ f ∷ g ∷ h ∷ []) is = refl
eight z (a ∷ b ∷ c ∷ d ∷ e ∷ f ∷ g ∷ h ∷ i ∷ xs) is = absurd (omega (arith, is))

-- and one whose elements were read
pub eight-read : {X : Type 0} (xs : List X) (r0 r1 r2 r3 r4 r5 r6 r7 : X) → length xs ≡ 8 → r0 ≡ get_or xs 0 r0 → r1 ≡ get_or xs 1 r1 → r2 ≡ get_or xs 2 r2 → r3 ≡ get_or xs 3 r3 → r4 ≡ get_or xs 4 r4 → r5 ≡ get_or xs 5 r5 → r6 ≡ get_or xs 6 r6 → r7 ≡ get_or xs 7 r7 → xs ≡ r0 ∷ r1 ∷ r2 ∷ r3 ∷ r4 ∷ r5 ∷ r6 ∷ r7 ∷ []
eight-read xs r0 r1 r2 r3 r4 r5 r6 r7 is i0 i1 i2 i3 i4 i5 i6 i7 =
    let e = eight r0 xs is in
    e ∙ (λ j. sym (rw e at i0) j ∷ sym (rw e at i1) j ∷ sym (rw e at i2) j ∷ sym (rw e at i3) j ∷ sym (rw e at i4) j ∷ sym (rw e at i5) j ∷ sym (rw e at i6) j ∷ sym (rw e at i7) j ∷ [])

-- an id among those that were not found is no key

unlike-any : (k id : ℕ) (absent : List ℕ) → Each (λ x. 0 < x → k ≢ x) absent → 0 < id → list_any (λ x. x == id) absent ≡ true → k ≢ id
unlike-any k id [] each some is = absurd (cc)
unlike-any k id (x ∷ xs) each some is = by (eqb x id) refl (unlike-any k id xs each.1 some) is
  where
    by : (b : Bool) → eqb x id ≡ b → (list_any (λ x. x == id) xs ≡ true → k ≢ id) → (b || list_any (λ x. x == id) xs) ≡ true → k ≢ id
    by true e later is = let same : x ≡ id = grind (arith, nat_tests) in subst (λ y. 0 < y → k ≢ y) same each.0 some
    by false e later is = later is

pub unlike-among : (k id : ℕ) (absent : List ℕ) → Each (λ x. 0 < x → k ≢ x) absent → (ltb 0 id && list_any (λ x. x == id) absent) ≡ true → k ≢ id
unlike-among k id absent each is = by (ltb 0 id) refl is
  where
    by : (b : Bool) → ltb 0 id ≡ b → (b && list_any (λ x. x == id) absent) ≡ true → k ≢ id
    by true e is = let some : 0 < id = grind (arith, nat_tests) in unlike-any k id absent each some is
    by false e is = absurd (cc)

-- an id more

pub unlike-blanked : (k id : ℕ) (absent : List ℕ) → Each (λ x. 0 < x → k ≢ x) absent → Each (λ x. 0 < x → k ≢ x) (without_id id absent)
unlike-blanked k id [] each = tt
unlike-blanked k id (x ∷ xs) each = (by (eqb x id), unlike-blanked k id xs each.1)
  where
    by : (b : Bool) → 0 < cond b 0 x → k ≢ cond b 0 x
    by true = λ some. absurd (omega (arith, some))
    by false = each.0

pub unlike-new : (id : ℕ) (absent : List ℕ) → Each (λ x. 0 < x → id ≢ x) (without_id id absent)
unlike-new id [] = tt
unlike-new id (x ∷ xs) = (by (eqb x id) refl, unlike-new id xs)
  where
    by : (b : Bool) → eqb x id ≡ b → 0 < cond b 0 x → id ≢ cond b 0 x
    by true e = λ some. absurd (omega (arith, some))
    by false e = λ some. grind (arith, nat_tests)

module _ {V : Type 0} (key : V → ℕ) where
  -- what holds of each row's key
  abbrev pub OfKeys : (ℕ → Type 0) → List V → Type 0
  OfKeys P rows = Each (λ row. P (key row)) rows

  -- no key is the id, so nothing is found
  pub none-unlike : (P : ℕ → Type 0) (id : ℕ) (rows : List V) → OfKeys P rows → ((k : ℕ) → P k → k ≢ id) → None ≡ find (λ row. key row == id) rows
  none-unlike P id rows known unlike = sym (none-found (λ row. key row == id) rows (each-map (λ row. P (key row)) (λ row. eqb (key row) id ≡ false) rows (λ row p. let other : key row ≢ id = unlike (key row) p in grind (arith, nat_tests)) known))

  pub known-put : (P Q : ℕ → Type 0) (k : ℕ) (row : V) (rows : List V) → k ≡ key row → Q k → ((n : ℕ) → P n → Q n) → OfKeys P rows → OfKeys Q (put key row rows)
  known-put P Q k row rows own here others known =
      each-put key (λ y. Q (key y)) row rows (subst Q own here) (each-map (λ y. P (key y)) (λ y. Q (key y)) rows (λ y p. others (key y) p) known)

  -- rows that keep their keys

  pub known-replaced : (P : ℕ → Type 0) (row : V) (rows : List V) → OfKeys P rows → OfKeys P (replaced key row rows)
  known-replaced P row [] known = tt
  known-replaced P row (y ∷ ys) known = by (eqb (key y) (key row)) refl (known-replaced P row ys known.1)
    where
      by : (b : Bool) → eqb (key y) (key row) ≡ b → OfKeys P (replaced key row ys) → OfKeys P (cond b (row ∷ ys) (y ∷ replaced key row ys))
      by true e later = let same : key y ≡ key row = grind (arith, nat_tests) in (subst P same known.0, known.1)
      by false e later = (known.0, later)

  -- a search

  pub unlike-unfound : (ids : List ℕ) (rows : List V) → OfKeys (λ k. Each (λ x. 0 < x → k ≢ x) (unfound ids (map (λ id. find (λ row. key row == id) rows) ids))) rows
  unlike-unfound [] rows = each-all (λ row. Unit {0}) rows (λ row. tt)
  unlike-unfound (id ∷ ids) rows =
      let rest = unfound ids (map (λ id. find (λ row. key row == id) rows) ids) in
      each-both (λ row. 0 < cond (is_some (find (λ row. key row == id) rows)) 0 id → key row ≢ cond (is_some (find (λ row. key row == id) rows)) 0 id) (λ row. Each (λ x. 0 < x → key row ≢ x) rest)
      (λ row. Each (λ x. 0 < x → key row ≢ x) (cond (is_some (find (λ row. key row == id) rows)) 0 id ∷ rest)) rows (λ row p q. (p, q))
      (by (find (λ row. key row == id) rows) refl) (unlike-unfound ids rows)
    where
      by : (o : Option V) → find (λ row. key row == id) rows ≡ o → Each (λ row. 0 < cond (is_some o) 0 id → key row ≢ cond (is_some o) 0 id) rows
      by (Some x) e = each-all (λ row. 0 < 0 → key row ≢ 0) rows (λ row some. absurd (omega (arith, some)))
      by None e = each-map (λ row. eqb (key row) id ≡ false) (λ row. 0 < id → key row ≢ id) rows (λ row other some. grind (arith, nat_tests)) (none-fails (λ row. key row == id) rows e)

  pub known-unfound : (known : AbsentIds) (ids : List ℕ) (shown : List (Option V)) (rows : List V) → shown ≡ map (λ id. find (λ row. key row == id) rows) ids
      → OfKeys (MayBeKey known) rows → OfKeys (MayBeKey (record known { sought = true; absent = unfound ids shown })) rows
  known-unfound known ids shown rows is may =
      let later = record known { sought = true; absent = unfound ids shown } in
      each-both (λ row. MayBeKey known (key row)) (λ row. Each (λ x. 0 < x → key row ≢ x) (unfound ids shown)) (λ row. MayBeKey later (key row)) rows
      (λ row p q. record { at_most = p.at_most; unlike = λ sought. q }) may
      (subst (λ s. OfKeys (λ k. Each (λ x. 0 < x → k ≢ x) (unfound ids s)) rows) (sym is) (unlike-unfound ids rows))

  pub known-unsought : (known : AbsentIds) (rows : List V) → OfKeys (MayBeKey known) rows → OfKeys (MayBeKey (record known { sought = false })) rows
  known-unsought known rows may =
      each-map (λ row. MayBeKey known (key row)) (λ row. MayBeKey (record known { sought = false }) (key row)) rows (λ row p. record { at_most = p.at_most; unlike = λ sought. absurd (false≢true sought) }) may

-- What is found of many ids at once.
use Rattle.tb_ledger.proofs.Common.{◌≡◌, ℕ, ◌+◌, ◌++◌, ◌==◌, List, [], ◌∷◌, length, map, find, replicate, take, drop, Option, None, Bor, option_map, option_copied, refl, sym, ap, ◌∙◌, filter_map, length-append, length-map, take-append-drop}

-- the shown values of rows found, and of what a search gives
pub found-many : {T X : Type 0} (f : T → X) (g : ℕ → Option T) (rs : List (Option (Bor T))) (ids : List ℕ) → map option_copied rs ≡ map g ids → filter_map (λ r. option_map f (option_copied r)) rs ≡ filter_map (λ id. option_map f (g id)) ids
found-many f g [] [] is = refl
found-many f g [] (id ∷ ids) is = absurd (cc)
found-many f g (r ∷ rs) [] is = absurd (cc)
found-many f g (r ∷ rs) (id ∷ ids) is =
    let here : option_copied r ≡ g id = cc in
    let later : map option_copied rs ≡ map g ids = cc in
    rw (here, found-many f g rs ids later) refl

pub shown-same : {X : Type 0} (h k : ℕ → Option X) → ((id : ℕ) → h id ≡ k id) → (ids : List ℕ) → filter_map h ids ≡ filter_map k ids
shown-same h k same [] = refl
shown-same h k same (id ∷ ids) = rw (same id, shown-same h k same ids) refl

pub same-length : {T : Type 0} (g : ℕ → Option T) (rs : List (Option (Bor T))) (ids : List ℕ) → map option_copied rs ≡ map g ids → length rs ≡ length ids
same-length g rs ids is = sym (length-map rs option_copied) ∙ ap length is ∙ length-map ids g

-- a list that was cut in two
pub cut : {X : Type 0} (n : ℕ) (xs front back : List X) → front ≡ take n xs → back ≡ drop n xs → front ++ back ≡ xs
cut n xs front back is is' = rw (is, is') (take-append-drop n xs)

pub cut-length : {X : Type 0} (n : ℕ) (xs front back : List X) → front ≡ take n xs → back ≡ drop n xs → length front + length back ≡ length xs
cut-length n xs front back is is' = sym (length-append front back) ∙ ap length (cut n xs front back is is')

-- searches that find nothing
pub none-many : {V : Type 0} (key : V → ℕ) (rows : List V) (ks : List ℕ) → rows ≡ [] → map (λ k. find (λ row. key row == k) rows) ks ≡ replicate (length ks) None
none-many key rows [] none = refl
none-many key rows (k ∷ ks) none = rw (none-many key rows ks none, none) refl

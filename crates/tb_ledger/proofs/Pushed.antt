-- What h gives of the items xs, pushed to a list item by item: those before i stand in `out`.
use Rattle.tb_ledger.proofs.Common.{◌≡◌, ℕ, ◌+◌, ◌<◌, ◌≤◌, List, [], ◌∷◌, ◌++◌, length, drop, get_or, Option, None, Some, append-nil, append_assoc, arith, filter_map, refl, sym, ap, ◌∙◌, at_drop_all, at_drop_more, length-drop}

pub one_fewer : {X : Type 0} (xs : List X) (i : ℕ) → i < length xs → length (drop (i + 1) xs) + 1 ≡ length (drop i xs)
one_fewer xs i within = omega (arith, within, length-drop i xs, length-drop (i + 1) xs)

module _ {X Y : Type 0} (h : X → Option Y) (xs : List X) (i : ℕ) (out start : List Y) (so_far : out ++ filter_map h (drop i xs) ≡ start) where
  pub pushed_all : length xs ≤ i → out ≡ start
  pushed_all done = sym (append-nil out) ∙ ap (λ ys. out ++ ys) (sym (at_drop_all (filter_map h) xs i done)) ∙ so_far

  module _ (x d : X) (within : i < length xs) (is : x ≡ get_or xs i d) where
    one_more : out ++ filter_map h (x ∷ drop (i + 1) xs) ≡ start
    one_more = ap (λ y. out ++ filter_map h (y ∷ drop (i + 1) xs)) is ∙ ap (λ ys. out ++ ys) (sym (at_drop_more (filter_map h) xs i d within)) ∙ so_far

    pub pushed_one : (out' : List Y) (y : Y) → out' ≡ out ++ y ∷ [] → h x ≡ Some y → out' ++ filter_map h (drop (i + 1) xs) ≡ start
    pushed_one out' y put gives =
        let next : filter_map h (x ∷ drop (i + 1) xs) ≡ y ∷ filter_map h (drop (i + 1) xs) = rw gives refl in
        ap (λ ys. ys ++ filter_map h (drop (i + 1) xs)) put ∙ append_assoc out (y ∷ []) (filter_map h (drop (i + 1) xs)) ∙ ap (λ ys. out ++ ys) (sym next) ∙ one_more

    pub passed_one : (out' : List Y) → out' ≡ out → h x ≡ None → out' ++ filter_map h (drop (i + 1) xs) ≡ start
    passed_one out' same gives =
        let next : filter_map h (x ∷ drop (i + 1) xs) ≡ filter_map h (drop (i + 1) xs) = rw gives refl in
        ap (λ ys. ys ++ filter_map h (drop (i + 1) xs)) same ∙ ap (λ ys. out ++ ys) (sym next) ∙ one_more

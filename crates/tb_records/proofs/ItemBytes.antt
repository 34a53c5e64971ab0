-- Items of one size, one after the other.
use Rattle.std.proofs.Common.{◌≡◌, ℕ, ◌*◌, List, [], ◌∷◌, ◌++◌, length, arith, length-append}
use Rattle.std.proofs.lemmas.Grind.{common_steps}
use Rattle.std.specs.List.{flat_map}

-- n items of one size have n times as many bytes
pub length_items : {X : Type 0} (spelling : X → List ℕ) (size : ℕ) → ((x : X) → length (spelling x) ≡ size) → (xs : List X) → length (flat_map spelling xs) ≡ size * length xs
length_items spelling size each [] = omega arith
length_items spelling size each (x ∷ xs) =
    omega (arith, length-append (spelling x) (flat_map spelling xs), each x, length_items spelling size each xs)

-- one more item, read from the beginning of the rest
pub row_more : {X : Type 0} (spelling : X → List ℕ) (xs : List X) (x : X) (front more rest whole : List ℕ)
    → front ++ more ≡ rest → spelling x ≡ front → flat_map spelling xs ++ rest ≡ whole → flat_map spelling (xs ++ x ∷ []) ++ more ≡ whole
row_more spelling xs x front more rest whole cut same all = grind (arith, common_steps)

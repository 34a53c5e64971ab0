-- What a lookup of an id finds among rows.
use Rattle.std.specs.Prelude.{ℕ, ◌==◌, List, find, Option}
use Rattle.std.specs.Option.{option_map}

-- the record of the row that has the id as its key, if there is one
abbrev pub found_in : {V R : Type 0} → (V → ℕ) → (V → R) → List V → ℕ → Option R
found_in key record_now rows id = option_map record_now (find (λ row. key row == id) rows)

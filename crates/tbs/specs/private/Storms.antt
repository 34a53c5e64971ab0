-- What words ask for a storm.
use Rattle.std.specs.Prelude.{ℕ, Bool, nat_eq, List, [], ◌∷◌, Option, Some, None, if◌then◌else◌, codes}
use Rattle.std.specs.Cmp.Lexicographic.{pointwise}
use Rattle.tb_edge_commands.specs.Forms.{number_of, within}

abbrev pub is_storm : List ℕ → Bool
is_storm word = pointwise nat_eq word (codes "storm")

abbrev pub storm_by : Option ℕ → Option ℕ → Option (ℕ × ℕ)
storm_by None transfers = None
storm_by (Some clients) None = None
storm_by (Some clients) (Some transfers) = Some (clients, transfers)

-- `storm CLIENTS TRANSFERS`: 1 to 16, and 1 to 1000
abbrev pub storm_of : List (List ℕ) → Option (ℕ × ℕ)
storm_of [] = None
storm_of (word ∷ []) = None
storm_of (word ∷ clients ∷ []) = None
storm_of (word ∷ clients ∷ transfers ∷ []) = if is_storm word then storm_by (within 1 16 (number_of clients)) (within 1 1000 (number_of transfers)) else None
storm_of (word ∷ clients ∷ transfers ∷ more ∷ rest) = None

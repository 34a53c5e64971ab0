-- The results of a batch so far.
use Rattle.std.specs.Prelude.{ℕ, not, ◌==◌, List, map, filter, ◌≡◌, ◌++◌}
use Rattle.std.specs.List.{enumerate_from}
use Rattle.tb_records.specs.declared.records.EventResult.{EventResult}

-- the results of codes, from an index on
abbrev pub results_from : ℕ → List ℕ → List EventResult
results_from index codes = map (λ x. record { index = x.0; result = x.1 }) (filter (λ x. not (x.1 == 0)) (enumerate_from index codes))

-- the results, and how many there can be
pub record Gathered : Type 0 where
  pub items : List EventResult
  pub capacity : ℕ

-- results were added: those of codes, from an index on
abbrev pub AddsResults : ℕ → List ℕ → Gathered → Gathered → Type 0
AddsResults index codes before after = after.items ≡ before.items ++ results_from index codes

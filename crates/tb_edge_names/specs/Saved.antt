-- Bytes that were copied before they were cut off.
use Rattle.std.specs.Prelude.{ℕ, List}
use Rattle.tb_edge_file.specs.CutCopies.{IsKept, IsSoundAt}
use Rattle.tb_edge_file.specs.Names.{Names}

-- at a moment a name led to a file of exactly these bytes, and a crash left that, if no sync of that file or of its folder had failed before
pub record IsSaved {F : Type 0} (names : F → Names) (bytes : List ℕ) : Type 0 where
  pub before : F
  pub moment : F
  pub name : List ℕ
  pub kept : IsSoundAt (names before) name → IsKept (names moment) name bytes

-- Bytes that are read after calls that read nothing.
use Rattle.std.proofs.Common.{ℕ, List, Option, None, Some, sym, ◌∙◌}
use Rattle.std.specs.Io.KnownBytes.{Consumes, Keeps}

-- bytes that stayed as they were lose those that are read
pub read_after : (a b c : Option (List ℕ)) (bs : List ℕ) → Keeps a b → Consumes b c bs → Consumes a c bs
read_after None b c bs kept taken = tt
read_after (Some x) None c bs kept taken = absurd kept
read_after (Some x) (Some y) None bs kept taken = taken
read_after (Some x) (Some y) (Some z) bs kept taken = sym kept ∙ taken

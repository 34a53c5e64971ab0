-- Numbers as bytes, the lowest byte first.
use Rattle.std.specs.Prelude.{ℕ, List, drop}
use Rattle.byteorder.specs.Endian.{little_bytes, little_number}

-- the lowest n bytes of a number
unfoldable pub le_bytes : ℕ → ℕ → List ℕ
le_bytes n x = little_bytes n x

-- the number in the n bytes from a place on
unfoldable pub le_at : ℕ → ℕ → List ℕ → ℕ
le_at n at bytes = little_number n (drop at bytes)

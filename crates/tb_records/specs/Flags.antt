-- Flags in a number of 16 bits.
use Rattle.std.specs.Prelude.{ℕ, Bool, not, ◌==◌, bit_and}

-- one of the mask's bits is set
abbrev pub has_flag : ℕ → ℕ → Bool
has_flag mask flags = not (bit_and flags mask == 0)

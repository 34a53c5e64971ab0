-- CRC-32C, bit by bit.
use Rattle.std.specs.Prelude.{◌≡◌, ℕ, zero, suc, ◌/◌, ◌%◌, List, [], ◌∷◌, bit_xor, if◌then◌else◌, ◌==◌, codes, replicate, refl}

-- one bit, by the Castagnoli polynomial with its bits reversed
unfoldable pub bit_on : ℕ → ℕ
bit_on c = bit_xor (c / 2) (if c % 2 == 1 then 0x82F63B78 else 0)

unfoldable pub byte_on : ℕ → ℕ
byte_on c = bit_on (bit_on (bit_on (bit_on (bit_on (bit_on (bit_on (bit_on c)))))))

-- the remainder after these bytes
abbrev pub remainder : List ℕ → ℕ → ℕ
remainder [] c = c
remainder (byte ∷ bytes) c = remainder bytes (byte_on (bit_xor c byte))

-- the remainder after so many more bytes of zeros: only private functions use it
abbrev pub zeros_on : ℕ → ℕ → ℕ
zeros_on zero c = c
zeros_on (suc k) c = zeros_on k (byte_on c)

-- the check value that tables of checksums list, and a vector of RFC 3720, both begun at ones and inverted at the end, as CRC-32C is mostly used
pub remainder_of_digits : bit_xor (remainder (codes "123456789") 0xFFFFFFFF) 0xFFFFFFFF ≡ 0xE3069283
unfolding bit_on byte_on
remainder_of_digits = refl

pub remainder_of_ones : bit_xor (remainder (replicate 32 255) 0xFFFFFFFF) 0xFFFFFFFF ≡ 0x62A8AB43
unfolding bit_on byte_on
remainder_of_ones = refl

-- begun at 0, zeros have the remainder 0
pub remainder_of_zeros : remainder (replicate 506 0) 0 ≡ 0
unfolding bit_on byte_on
remainder_of_zeros = refl

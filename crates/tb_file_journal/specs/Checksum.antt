-- CRC-32C, bit by bit.
use Rattle.std.specs.Prelude.{◌≡◌, ℕ, zero, suc, ◌/◌, ◌%◌, List, [], ◌∷◌, bit_xor, if◌then◌else◌, ◌==◌, codes, replicate, refl}

-- one bit, by the Castagnoli polynomial with its bits reversed
unfoldable pub bit_on : ℕ → ℕ
bit_on c = bit_xor (c / 2) (if c % 2 == 1 then 0x82F63B78 else 0)

unfoldable pub byte_on : ℕ → ℕ
byte_on c = bit_on (bit_on (bit_on (bit_on (bit_on (bit_on (bit_on (bit_on c)))))))

-- the remainder after these bytes
abbrev pub remainder : List ℕ → ℕ → ℕ
remainder [] c = c
remainder (byte ∷ bytes) c = remainder bytes (byte_on (bit_xor c byte))

abbrev pub checksum : List ℕ → ℕ
checksum bytes = bit_xor (remainder bytes 0xFFFFFFFF) 0xFFFFFFFF

-- the remainder after so many more bytes of zeros: only private functions use it
abbrev pub zeros_on : ℕ → ℕ → ℕ
zeros_on zero c = c
zeros_on (suc k) c = zeros_on k (byte_on c)

-- the checksum of no bytes, the check value that tables of checksums list, and the vectors of RFC 3720: 32 zeros, and 32 bytes of ones
pub checksum_of_nothing : checksum [] ≡ 0
checksum_of_nothing = refl

pub checksum_of_digits : checksum (codes "123456789") ≡ 0xE3069283
unfolding bit_on byte_on
checksum_of_digits = refl

pub checksum_of_zeros : checksum (replicate 32 0) ≡ 0x8A9136AA
unfolding bit_on byte_on
checksum_of_zeros = refl

pub checksum_of_ones : checksum (replicate 32 255) ≡ 0x62A8AB43
unfolding bit_on byte_on
checksum_of_ones = refl

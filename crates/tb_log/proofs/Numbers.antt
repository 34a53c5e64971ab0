-- Numbers as bytes.
use Rattle.std.proofs.Common.{◌≡◌, ℕ, ◌<◌, List, length, slice_index, refl, sym, ◌∙◌, arith, take_all}
use Rattle.std.specs.Int.{w32, w64, to_le_bytes}
use Rattle.byteorder.specs.Endian.{little_number}
use Rattle.tb_records.specs.Numbers.{le_bytes, le_at}
use Rattle.tb_records.proofs.NumberBytes.{number_spelled}
use Rattle.tb_log.specs.Format.{number_bytes}

same_bytes : (n x : ℕ) → number_bytes n x ≡ le_bytes n x
unfolding number_bytes le_bytes
same_bytes n x = refl

number_is : (n : ℕ) (xs : List ℕ) → little_number n xs ≡ le_at n 0 xs
unfolding le_at
number_is n xs = refl

-- the number that a whole buffer holds has these bytes
pub eight_bytes : (x : ℕ) (xs : List ℕ) → length xs ≡ 8 → ((i : ℕ) → slice_index xs i < 256) → x ≡ little_number 8 xs → number_bytes 8 x ≡ xs
eight_bytes x xs long small is = same_bytes 8 x ∙ sym (number_spelled 8 0 x xs (omega arith) small (is ∙ number_is 8 xs)) ∙ take_all 8 xs (omega arith)

pub four_bytes : (x : ℕ) (xs : List ℕ) → length xs ≡ 4 → ((i : ℕ) → slice_index xs i < 256) → x ≡ little_number 4 xs → number_bytes 4 x ≡ xs
four_bytes x xs long small is = same_bytes 4 x ∙ sym (number_spelled 4 0 x xs (omega arith) small (is ∙ number_is 4 xs)) ∙ take_all 4 xs (omega arith)

-- the bytes that are written of a number
pub eight_written : (x : ℕ) → to_le_bytes w64 x ≡ number_bytes 8 x
unfolding number_bytes
eight_written x = refl

pub four_written : (x : ℕ) → to_le_bytes w32 x ≡ number_bytes 4 x
unfolding number_bytes
four_written x = refl

-- What follows an open latch.
use Rattle.std.proofs.Common.{rules, ◌≡◌, ℕ, ◌<◌, ◌≤◌, ◌==◌, Bool, true, false, List, [], ◌∷◌, ◌++◌, length, take, arith, nat_le, if◌then◌else◌}
use Rattle.std.proofs.lemmas.Grind.{common_steps}
use Rattle.std.proofs.lemmas.List.{length-take-le}
use Rattle.std.proofs.lemmas.Bool.Decides.{nat_tests}
use Rattle.std.specs.Int.{w32, from_le_bytes}
use Rattle.tb_file_journal.specs.Checksum.{checksum}
use Rattle.tb_file_journal.specs.Contents.{Spoiled, Whole, behind_latch}
use Rattle.tb_file_journal.specs.Reading.{head_is}
use Rattle.tb_file_journal.specs.declared.reading.Head.TheVariants as heads

head_true : (b : Bool) (r : List ℕ) → b ≡ true → heads.Whole (length r) ≡ head_is (if b then Whole r else Spoiled)
head_true b r is = grind (arith, common_steps)

pub too_short : (size : List ℕ) (sum count : ℕ) (rest : List ℕ) → count ≡ from_le_bytes w32 (size ++ 0 ∷ []) → length rest < count → heads.Spoiled ≡ head_is (behind_latch size sum rest)
too_short size sum count rest is short = grind (arith, common_steps)
  where
    over : (a b : ℕ) → b < a → nat_le a b ≡ false
    over a b h = grind (arith, nat_tests)

within : (a b : ℕ) → a ≤ b → nat_le a b ≡ true
within a b h = grind (arith, nat_tests)

pub whole_there : (size : List ℕ) (sum count read : ℕ) (rest content : List ℕ) → count ≡ from_le_bytes w32 (size ++ 0 ∷ []) → count ≤ length rest → content ≡ take count rest → read ≡ checksum (size ++ content) → read ≡ sum → heads.Whole count ≡ head_is (behind_latch size sum rest)
whole_there size sum count read rest content is fits same sums found =
    search (rules, equal, length-take-le, head_true, within)
  where
    equal : (a b : ℕ) → a ≡ b → (a == b) ≡ true
    equal a b e = grind (arith, nat_tests)

pub other_sum : (size : List ℕ) (sum count read : ℕ) (rest content : List ℕ) → count ≡ from_le_bytes w32 (size ++ 0 ∷ []) → count ≤ length rest → content ≡ take count rest → read ≡ checksum (size ++ content) → (read ≡ sum → ⊥) → heads.Spoiled ≡ head_is (behind_latch size sum rest)
other_sum size sum count read rest content is fits same sums differs = grind (arith, common_steps)

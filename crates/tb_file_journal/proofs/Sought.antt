-- Records that are sought by their checksums.
use Rattle.std.proofs.Common.{arith, ◌≡◌, ⊎_elim, ℕ, ◌+◌, ◌-◌, ◌<◌, ◌≤◌, min, Bool, true, false, List, length, take, drop, sym, ◌∙◌, ap, refl, subst, Ok, length-drop}
use Rattle.std.proofs.lemmas.Bool.{cases_lt}
use Rattle.std.proofs.lemmas.List.{take-take, length-take-le, drop_all, drop-take}
use Rattle.std.proofs.Math.Nat.{le-min, min-eq_left}
use Rattle.std.specs.Int.{w32, from_le_bytes}
use Rattle.tb_file_journal.specs.Scans.{IsAhead}
use Rattle.tb_file_journal.specs.Reading.{HasAhead}
use Rattle.tb_file_journal.specs.Seeking.{IsSummed, StandsAt, SeeksRecord}
use Rattle.tb_file_journal.proofs.BlockWalks.{drop_parts}

module _ (at : ℕ) (file ahead : List ℕ) (same : IsAhead at file ahead) where
  abbrev rest : List ℕ
  rest = drop at file

  behind : (n : ℕ) → n ≤ length ahead → drop n ahead ≡ take (length ahead - n) (drop n rest)
  behind n le =
      let k = length ahead - n in
      ap (drop n) (same ∙ ap (λ (m : ℕ). take m rest) (let e : length ahead ≡ n + k = omega (arith, le) in e)) ∙ drop-take n k rest

  -- the bytes ahead of a later place
  pub skipped : (n : ℕ) → n ≤ length ahead → IsAhead (at + n) file (drop n ahead)
  skipped n le =
      let long : length ahead - n ≡ length (drop n ahead) = sym (length-drop n ahead) in
      behind n le ∙ ap (λ (l : List ℕ). take (length ahead - n) l) (sym (drop_parts at n file)) ∙ ap (λ (k : ℕ). take k (drop (at + n) file)) long

  -- the same for a place after all of them
  pub skipped_some : (n : ℕ) → IsAhead (at + n) file (drop (min n (length ahead)) ahead)
  skipped_some n = ⊎_elim
      (λ (more : length ahead < n).
      let all : length ahead ≤ min n (length ahead) = le-min (omega (arith, more)) (omega arith) in
      subst (IsAhead (at + n) file) (sym (drop_all (min n (length ahead)) ahead all)) refl)
      (λ (le : n ≤ length ahead). subst (λ (k : ℕ). IsAhead (at + n) file (drop k ahead)) (sym (min-eq_left le)) (skipped n le))
      (cases_lt (length ahead) n)

  -- so many of them are those of the file
  module _ (len : ℕ) (all : 4 + len ≤ length ahead) where
    sums : take 4 ahead ≡ take 4 rest
    sums = ap (take 4) same ∙ take-take 4 (length ahead) rest (omega (arith, all))

    pub records : take len (drop 4 ahead) ≡ take len (drop 4 rest)
    records = ap (take len) (behind 4 (omega (arith, all))) ∙ take-take len (length ahead - 4) (drop 4 rest) (omega (arith, all))

    long : length (take len (drop 4 ahead)) ≡ len
    long = length-take-le len (drop 4 ahead) (omega (arith, all, length-drop 4 ahead))

    pub stands : IsSummed (take len (drop 4 ahead)) ahead → StandsAt at (take len (drop 4 ahead)) file
    stands summed = record {
      sum = ap (from_le_bytes w32) (sym sums) ∙ summed.sum;
      is = ap (λ (k : ℕ). take k (drop 4 rest)) long ∙ sym records;
    }

    pub ahead_too : (bytes : List ℕ) → length bytes ≡ len → StandsAt at bytes file → IsSummed bytes ahead
    ahead_too bytes is there = record {
      sum = ap (from_le_bytes w32) sums ∙ there.sum;
      is = ap (λ (k : ℕ). take k (drop 4 ahead)) is ∙ records ∙ ap (λ (k : ℕ). take k (drop 4 rest)) (sym is) ∙ there.is;
    }

-- what is there, by the bytes ahead
pub told : (answer : Bool) (at len : ℕ) (file ahead : List ℕ) → HasAhead (4 + len) at file ahead
    → (answer ≡ true → IsSummed (take len (drop 4 ahead)) ahead) → (answer ≡ true → 4 + len ≤ length ahead)
    → (answer ≡ false → (bytes : List ℕ) → length bytes ≡ len → IsSummed bytes ahead → ⊥)
    → SeeksRecord (Ok answer) len file (record { at = at; ahead = ahead })
told true at len file ahead has so many none = (stands at file ahead has.same len (many refl) (so refl), many refl)
told false at len file ahead has so many none = λ bytes is there. none refl bytes is (⊎_elim (λ (enough : 4 + len ≤ length ahead). ahead_too at file ahead has.same len enough bytes is there)
    (λ (whole : ahead ≡ drop at file). subst (IsSummed bytes) (sym whole) there) has.enough)

-- What a window has after it was filled.
use Rattle.std.proofs.Common.{rules, ◌≡◌, inl, inr, ⊎_elim, ℕ, ◌+◌, ◌≤◌, List, length, take, drop, sym, ◌∙◌, ap, arith, length-drop, length-take}
use Rattle.std.proofs.lemmas.List.{take_all, take-take, length-take-le}
use Rattle.std.proofs.lemmas.Bool.{cases_lt}
use Rattle.tb_file_journal.specs.Device.{ReadsAt}
use Rattle.tb_file_journal.specs.Scans.{IsAhead}
use Rattle.tb_file_journal.specs.Reading.{HasAhead}
use Rattle.tb_file_journal.proofs.BlockWalks.{take_parts, drop_parts}

-- bytes that stay in front stay ahead
pub kept_in_front : (k n : ℕ) (now was old : List ℕ) → k ≤ n → take n now ≡ was → take k was ≡ old → take k now ≡ old
kept_in_front k n now was old le front is = sym (take-take k n now le) ∙ ap (take k) front ∙ is

module _ (n at k count : ℕ) (file old buffer : List ℕ) (front : take k buffer ≡ old) (within : k + count ≤ length buffer) (room : n ≤ length buffer) (same : IsAhead at file old) (read : ReadsAt count (at + k) file (drop k buffer)) where
  long : length old ≡ k
  long = ap length (sym front) ∙ length-take-le k buffer (omega (arith, within))

  here : old ≡ take k (drop at file)
  here = same ∙ ap (λ (m : ℕ). take m (drop at file)) long

  left : k ≤ length (drop at file)
  left = omega (arith, ap length here, length-take k (drop at file), long)

  abbrev ahead : List ℕ
  ahead = take (k + count) buffer

  both : ahead ≡ take (k + count) (drop at file)
  both = search (rules, take_parts k count buffer, here, drop_parts at k file, take_parts k count (drop at file))

  many : length ahead ≡ k + count
  many = length-take-le (k + count) buffer within

  pub filled : HasAhead n at file ahead
  filled = record {
    same = both ∙ ap (λ (m : ℕ). take m (drop at file)) (sym many);
    enough = ⊎_elim
        (λ less. inr (both ∙ take_all (k + count) (drop at file) (omega (arith, less, read.counts, length-drop k buffer, ap length (drop_parts at k file), length-drop k (drop at file), many))))
        (λ le. inl le) (cases_lt (length ahead) n);
  }

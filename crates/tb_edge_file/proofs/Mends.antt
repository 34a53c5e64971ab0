-- Bytes over the first ones of others.
use Rattle.std.proofs.Common.{arith, ℕ, ◌≡◌, ◌≤◌, zero, suc, min, List, [], ◌∷◌, ◌++◌, length, take, drop, refl, sym, ap, ◌∙◌, length-append, length-drop}
use Rattle.std.proofs.lemmas.List.{length-take-le, take_at}
use Rattle.tb_file_journal.specs.Contents.{magic}
use Rattle.tb_file_journal.specs.Device.{ReadsAt}
use Rattle.tb_edge_file.specs.Mending.{overlaid, mended}

pub long : (xs ys : List ℕ) → length (overlaid xs ys) ≡ length ys
long [] ys = refl
long (x ∷ xs) [] = refl
long (x ∷ xs) (y ∷ ys) = ap suc (long xs ys)

pub dropped : (n : ℕ) (xs ys : List ℕ) → drop n (overlaid xs ys) ≡ overlaid (drop n xs) (drop n ys)
dropped zero xs ys = refl
dropped (suc n) [] [] = refl
dropped (suc n) [] (y ∷ ys) = refl
dropped (suc n) (x ∷ xs) [] = by (drop n xs)
  where
    by : (zs : List ℕ) → [] ≡ overlaid zs []
    by [] = refl
    by (z ∷ zs) = refl
dropped (suc n) (x ∷ xs) (y ∷ ys) = dropped n xs ys

pub taken : (n : ℕ) (xs ys : List ℕ) → take n (overlaid xs ys) ≡ overlaid xs (take n ys)
taken zero [] ys = refl
taken zero (x ∷ xs) ys = refl
taken (suc n) [] ys = refl
taken (suc n) (x ∷ xs) [] = refl
taken (suc n) (x ∷ xs) (y ∷ ys) = ap (λ (l : List ℕ). x ∷ l) (taken n xs ys)

pub none : (xs : List ℕ) (ys : List ℕ) → length xs ≤ 0 → overlaid xs ys ≡ ys
none [] ys few = refl
none (x ∷ xs) ys few = absurd (omega (arith, few))

-- as many as fit
pub over : (n : ℕ) (xs ys : List ℕ) → n ≡ min (length ys) (length xs) → take n xs ++ drop n ys ≡ overlaid xs ys
over n [] ys is = by n ys (is_none n ys is)
  where
    is_none : (n : ℕ) (ys : List ℕ) → n ≡ min (length ys) 0 → n ≡ 0
    is_none n ys is = omega (arith, is)

    by : (n : ℕ) (ys : List ℕ) → n ≡ 0 → take n [] ++ drop n ys ≡ ys
    by zero ys none = refl
    by (suc n) ys none = absurd (cc)
over zero (x ∷ xs) [] is = refl
over (suc n) (x ∷ xs) [] is = absurd (omega (arith, is))
over zero (x ∷ xs) (y ∷ ys) is = absurd (omega (arith, is))
over (suc n) (x ∷ xs) (y ∷ ys) is = ap (λ (l : List ℕ). x ∷ l) (over n xs ys (omega (arith, is)))

-- what is read of a file over which the first bytes of a journal are put
pub reads_mended : (count at : ℕ) (file into new : List ℕ) → ReadsAt count at file into → count ≤ length into → new ≡ overlaid (drop at magic) (take count into)
    → ReadsAt count at (mended file) (new ++ drop count into)
reads_mended count at file into new read within is =
    let same : length new ≡ count = ap length is ∙ long (drop at magic) (take count into) ∙ length-take-le count into within in
    record {
      counts = omega (arith, read.counts, same, within, length-append new (drop count into), length-drop count into, ap length (dropped at magic file), long (drop at magic) (drop at file));
      bytes = take_at new (drop count into) count same ∙ is ∙ ap (overlaid (drop at magic)) read.bytes ∙ sym (taken count (drop at magic) (drop at file)) ∙ ap (take count) (sym (dropped at magic file));
    }

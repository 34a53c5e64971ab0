-- Numbers one after another, each in so many bytes: what is in their bytes, and that no other numbers have the same bytes.
use Rattle.std.proofs.Common.{◌≡◌, ℕ, ◌+◌, ◌^◌, ◌<◌, ◌≤◌, List, [], ◌∷◌, ◌++◌, length, take, slice_index, refl, sym, ap, subst, ◌∙◌, arith, length-append, append_assoc, append-nil}
use Rattle.tb_records.specs.Numbers.{le_bytes, le_at}
use Rattle.tb_records.proofs.Sizes.{length-le_bytes}
use Rattle.tb_records.proofs.NumberBytes.{le_at-append, le_at-last, le_at-spelled, le_bytes-one, split_at}

-- the bytes of numbers of these widths
abbrev pub row_bytes : List ℕ → List ℕ → List ℕ
row_bytes (n ∷ widths) (x ∷ xs) = le_bytes n x ++ row_bytes widths xs
row_bytes widths xs = []

-- each number fits its width
abbrev pub Fit : List ℕ → List ℕ → Type 0
Fit (n ∷ widths) (x ∷ xs) = (x < 256 ^ n) × Fit widths xs
Fit widths xs = Unit {0}

-- these numbers are in the bytes, from a place on
abbrev pub Stand : List ℕ → List ℕ → ℕ → List ℕ → Type 0
Stand (n ∷ widths) (x ∷ xs) at b = (le_at n at b ≡ x) × Stand widths xs (at + n) b
Stand widths xs at b = Unit {0}

-- what is in the bytes, from a place on
abbrev pub standing : List ℕ → ℕ → List ℕ → List ℕ
standing [] at b = []
standing (n ∷ widths) at b = le_at n at b ∷ standing widths (at + n) b

abbrev pub total : List ℕ → ℕ
total [] = 0
total (n ∷ widths) = n + total widths

-- numbers that fit are in their bytes
pub row_stands : (widths xs : List ℕ) (at : ℕ) (front back : List ℕ) → length front ≡ at → Fit widths xs → Stand widths xs at (front ++ (row_bytes widths xs ++ back))
row_stands [] xs at front back long fit = tt
row_stands (n ∷ widths) [] at front back long fit = tt
row_stands (n ∷ widths) (x ∷ xs) at front back long fit =
    let here : List ℕ = front ++ le_bytes n x in
    let behind : List ℕ = row_bytes widths xs ++ back in
    let further : length here ≡ at + n = omega (arith, length-append front (le_bytes n x), length-le_bytes n x) in
    let cut : front ++ (row_bytes (n ∷ widths) (x ∷ xs) ++ back) ≡ here ++ behind = simp append_assoc in (
      ap (le_at n at) cut ∙ le_at-append n at here behind (omega arith) ∙ le_at-last n at x front long fit.0,
      subst (Stand widths xs (at + n)) (sym cut) (row_stands widths xs (at + n) here back further fit.1),
    )

-- bytes are those of the numbers that are in them
pub row_read : (widths : List ℕ) (at : ℕ) (b : List ℕ) → at + total widths ≤ length b → ((i : ℕ) → slice_index b i < 256) → take (at + total widths) b ≡ take at b ++ row_bytes widths (standing widths at b)
row_read [] at b long fits =
    let end : at + 0 ≡ at = omega arith in
    ap (λ k. take k b) end ∙ sym (append-nil (take at b))
row_read (n ∷ widths) at b long fits =
    let row = row_bytes widths (standing widths (at + n) b) in
    let end : at + (n + total widths) ≡ at + n + total widths = omega arith in
    ap (λ k. take k b) end
    ∙ row_read widths (at + n) b (omega arith) fits
    ∙ ap (λ l. l ++ row) (le_at-spelled n at b (omega arith) fits)
    ∙ append_assoc (take at b) (le_bytes n (le_at n at b)) row

-- two lists of numbers with the same encoding, whatever follows them
pub one_row : (widths xs ys s t : List ℕ) → length xs ≡ length widths → length ys ≡ length widths → Fit widths xs → Fit widths ys
    → row_bytes widths xs ++ s ≡ row_bytes widths ys ++ t → (xs ≡ ys) × (s ≡ t)
one_row [] [] [] s t many_x many_y fit_x fit_y e = (refl, e)
one_row (n ∷ widths) (x ∷ xs) (y ∷ ys) s t many_x many_y fit_x fit_y e =
    let cut = split_at (le_bytes n x) (le_bytes n y) (row_bytes widths xs ++ s) (row_bytes widths ys ++ t) (length-le_bytes n x ∙ sym (length-le_bytes n y))
    (sym (append_assoc (le_bytes n x) (row_bytes widths xs) s) ∙ e ∙ append_assoc (le_bytes n y) (row_bytes widths ys) t) in
    let first : x ≡ y = le_bytes-one n x y fit_x.0 fit_y.0 cut.0 in
    let rest = one_row widths xs ys s t (omega arith) (omega arith) fit_x.1 fit_y.1 cut.1 in
    (λ i. first i ∷ rest.0 i, rest.1)
one_row widths xs ys s t many_x many_y fit_x fit_y e = absurd (omega arith)

-- Nothing or all of a write is what a crash may leave of it.
use Rattle.std.specs.Prelude.{◌≡◌, ℕ, zero, suc, ◌+◌, ◌≤◌, List, [], ◌∷◌, ◌++◌, length, take, drop, refl}
use Rattle.std.proofs.Common.{ap, arith, sym, inl, inr, ◌∙◌, length-append, length-drop}
use Rattle.std.proofs.lemmas.List.{take_at, drop_at, length-take-le}
use Rattle.tb_sectors.specs.Sectors.{IsMixed, overwritten}
use Rattle.tb_sectors.specs.Ranges.{IsTorn}

drop_nil : (k : ℕ) → [] ≡ drop {A = ℕ} k []
drop_nil zero = refl
drop_nil (suc k) = refl

pub drop_parts : (m n : ℕ) (l : List ℕ) → drop (m + n) l ≡ drop n (drop m l)
drop_parts zero n l = ap (λ (k : ℕ). drop k l) (omega arith)
drop_parts (suc m) n [] = ap (λ (k : ℕ). drop k []) (let e : suc m + n ≡ suc (m + n) = omega arith in e) ∙ drop_nil n
drop_parts (suc m) n (x ∷ l) = ap (λ (k : ℕ). drop k (x ∷ l)) (let e : suc m + n ≡ suc (m + n) = omega arith in e) ∙ drop_parts m n l

-- by sectors

pub mixed_old : (old new : List ℕ) → IsMixed old new old
mixed_old old new = record { each = λ k. inl refl; no_shorter = omega arith; no_longer = omega arith }

pub mixed_new : (old new : List ℕ) → IsMixed old new new
mixed_new old new = record { each = λ k. inr refl; no_shorter = omega arith; no_longer = omega arith }

-- in a range

pub torn_none : (at n : ℕ) (file : List ℕ) → IsTorn at n file file
torn_none at n file = record { before = refl; after = refl; no_shorter = omega arith; no_longer = omega arith }

pub torn_whole : (at : ℕ) (bytes file : List ℕ) → at ≤ length file → IsTorn at (length bytes) file (overwritten file at bytes)
torn_whole at bytes file within =
    let n = length bytes in
    let behind = drop (at + n) file in
    let begins : length (take at file) ≡ at = length-take-le at file within in
    record {
      before = take_at (take at file) (bytes ++ behind) at begins;
      after = drop_parts at n (take at file ++ (bytes ++ behind)) ∙ ap (drop n) (drop_at (take at file) (bytes ++ behind) at begins) ∙ drop_at bytes behind n refl;
      no_shorter = omega (arith, within, begins, length-append (take at file) (bytes ++ behind), length-append bytes behind, length-drop (at + n) file);
      no_longer = omega (arith, within, begins, length-append (take at file) (bytes ++ behind), length-append bytes behind, length-drop (at + n) file);
    }

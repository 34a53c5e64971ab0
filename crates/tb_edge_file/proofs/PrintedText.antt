-- What is printed of a text, character by character.
use Rattle.std.proofs.Common.{ℕ, ◌≡◌, ◌<◌, ◌++◌, suc, List, [], ◌∷◌, length, take, drop, get_or, map, refl, sym, ap, ◌∙◌, append_assoc, append-nil, arith}
use Rattle.std.specs.Char.{encode_utf8}
use Rattle.std.specs.Str.{encode_utf8_all}
use Rattle.tb_edge_file.specs.Printable.{printable_char}

-- what is printed of characters
abbrev pub printed : List ℕ → List ℕ
printed cs = encode_utf8_all (map printable_char cs)

both_printed : (cs ds : List ℕ) → printed cs ++ printed ds ≡ printed (cs ++ ds)
both_printed [] ds = refl
both_printed (c ∷ cs) ds = append_assoc (encode_utf8 (printable_char c)) (printed cs) (printed ds) ∙ ap (λ (l : List ℕ). encode_utf8 (printable_char c) ++ l) (both_printed cs ds)

-- a character more
pub printed_more : (cs : List ℕ) (c : ℕ) → printed cs ++ encode_utf8 (printable_char c) ≡ printed (cs ++ c ∷ [])
printed_more cs c = ap (λ (l : List ℕ). printed cs ++ l) (sym (append-nil (encode_utf8 (printable_char c)))) ∙ both_printed cs (c ∷ [])

-- characters whose first ones are these, with this one after them
parted : (cs all : List ℕ) (c : ℕ) → cs ≡ take (length cs) all → length cs < length all → c ≡ get_or all (length cs) c → cs ++ c ∷ drop (suc (length cs)) all ≡ all
parted [] [] c same low at = absurd (omega (arith, low))
parted [] (a ∷ all) c same low at = ap (λ (x : ℕ). x ∷ all) at
parted (x ∷ cs) [] c same low at = absurd (omega (arith, low))
parted (x ∷ cs) (a ∷ all) c same low at =
    ap (λ (y : ℕ). y ∷ (cs ++ c ∷ drop (suc (length cs)) all)) (ap (λ (l : List ℕ). get_or l 0 x) same)
    ∙ ap (λ (l : List ℕ). a ∷ l) (parted cs all c (ap (λ (l : List ℕ). drop 1 l) same) (omega (arith, low)) at)

-- what is printed of them, with what is after this one
pub printed_whole : (cs all : List ℕ) (c : ℕ) → cs ≡ take (length cs) all → length cs < length all → c ≡ get_or all (length cs) c
    → (printed cs ++ encode_utf8 (printable_char c)) ++ printed (drop (suc (length cs)) all) ≡ printed all
printed_whole cs all c same low at =
    append_assoc (printed cs) (encode_utf8 (printable_char c)) (printed (drop (suc (length cs)) all))
    ∙ both_printed cs (c ∷ drop (suc (length cs)) all)
    ∙ ap printed (parted cs all c same low at)

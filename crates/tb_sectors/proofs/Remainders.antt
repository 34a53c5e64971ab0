-- The tables give what the bits give.
use Rattle.std.proofs.Common.{◌≡◌, ℕ, zero, suc, ◌+◌, ◌*◌, ◌/◌, ◌%◌, ◌^◌, ◌<◌, ◌≤◌, ◌==◌, subst, List, [], ◌∷◌, ◌++◌, get_or, length, take, drop, take_all, length-drop, ◌-◌, refl, sym, ◌∙◌, ap, arith, lit<, if◌then◌else◌}
use Rattle.std.proofs.lemmas.Grind.{common_steps}
use Rattle.std.proofs.Math.Nat.{mul_assoc, pow-suc}
use Rattle.std.proofs.lemmas.Nat.{xor_comm, xor_block, xor_lt, xor_shr, xor_mod, and_mask, pow_pos, shr_split, mod_below}
use Rattle.std.proofs.lemmas.List.{get_or-drop, get_or-take}
use Rattle.std.proofs.lemmas.List.FromFn.{get_or-range_with_len}
use Rattle.std.proofs.Math.ListN.{get_or-map}
use Rattle.std.specs.List.{range_with_len}
use Rattle.std.specs.Prelude.{map, bit_and}
use Rattle.tb_sectors.specs.declared.tables.TheConstants.{REMAINDERS}
use Rattle.std.specs.Int.Bits.{bit_xor, xor_assoc, xor_zero_l, xor_zero_r}
use Rattle.tb_sectors.specs.Checksum.{bit_on, byte_on, remainder, zeros_on}
use Rattle.tb_sectors.specs.private.Outcomes.{drop_parts}

-- what a bit adds
turned : ℕ → ℕ
turned bit = if bit == 1 then 0x82F63B78 else 0

steps : ℕ → ℕ → ℕ
steps zero c = c
steps (suc k) c = steps k (bit_on c)

bit_is : (c half bit : ℕ) → c / 2 ≡ half → c % 2 ≡ bit → bit_on c ≡ bit_xor half (turned bit)
unfolding bit_on turned
bit_is c half bit h b = ap (λ (x : ℕ). bit_xor x (if c % 2 == 1 then 0x82F63B78 else 0)) h ∙ ap (λ (x : ℕ). bit_xor half (if x == 1 then 0x82F63B78 else 0)) b

-- the high bits only move
steps_high : (k h l : ℕ) → l < 2 ^ k → steps k (h * 2 ^ k + l) ≡ bit_xor (steps k l) h
unfolding steps
steps_high zero h l small = grind (arith, common_steps)
steps_high (suc k) h l small =
    let q = 2 ^ k in
    let twice : 2 ^ suc k ≡ q * 2 = pow-suc 2 k in
    let z = h * q in
    let moved : h * 2 ^ suc k ≡ z * 2 = ap (λ (n : ℕ). h * n) twice ∙ sym (mul_assoc h q 2) in
    let bit = l % 2 in
    let t = turned bit in
    let a = t / q in
    let b = t % q in
    let half : (h * 2 ^ suc k + l) / 2 ≡ h * q + l / 2 = ap (λ (n : ℕ). (n + l) / 2) moved ∙ halves z l in
    let odd : (h * 2 ^ suc k + l) % 2 ≡ bit = ap (λ (n : ℕ). (n + l) % 2) moved ∙ odds z l in
    let low : l / 2 < q = halved l q (below_twice l (2 ^ suc k) q twice small) in
    let rest : b < q = mod_below t q (pow_pos k) in
    let split : t ≡ a * q + b = sym (shr_split t k) in
    let mixed = bit_xor (l / 2) b in
    let fits : mixed < q = xor_lt k (l / 2) b low rest in
    let here : bit_on (h * 2 ^ suc k + l) ≡ bit_xor h a * q + mixed =
    bit_is (h * 2 ^ suc k + l) (h * q + l / 2) bit half odd ∙ ap (bit_xor (h * q + l / 2)) split ∙ xor_block k h a (l / 2) b low rest in
    let zero_half : l / 2 ≡ 0 * q + l / 2 = omega arith in
    let there : bit_on l ≡ a * q + mixed =
    bit_is l (0 * q + l / 2) bit zero_half refl ∙ ap (bit_xor (0 * q + l / 2)) split ∙ xor_block k 0 a (l / 2) b low rest ∙ ap (λ (x : ℕ). x * q + mixed) (xor_zero_l a) in
    let s = steps k mixed in
    ap (steps k) here ∙ steps_high k (bit_xor h a) mixed fits
    ∙ ap (bit_xor s) (xor_comm h a) ∙ sym (xor_assoc s a h)
    ∙ ap (λ (x : ℕ). bit_xor x h) (sym (ap (steps k) there ∙ steps_high k a mixed fits))
  where
    halves : (z l : ℕ) → (z * 2 + l) / 2 ≡ z + l / 2
    halves z l = omega arith

    odds : (z l : ℕ) → (z * 2 + l) % 2 ≡ l % 2
    odds z l = omega arith

    below_twice : (l p q : ℕ) → p ≡ q * 2 → l < p → l < q * 2
    below_twice l p q e h = omega arith

    halved : (l q : ℕ) → l < q * 2 → l / 2 < q
    halved l q h = omega arith

byte_high : (c : ℕ) → byte_on c ≡ bit_xor (byte_on (c % 256)) (c / 256)
unfolding steps byte_on
byte_high c = grind (arith, common_steps, steps_high 8 (c / 256) (c % 256) (omega arith))

-- both the bits and the bytes mix as their sums do

swapped : (a b c d : ℕ) → bit_xor (bit_xor a b) (bit_xor c d) ≡ bit_xor (bit_xor a c) (bit_xor b d)
swapped a b c d =
    xor_assoc a b (bit_xor c d)
    ∙ ap (bit_xor a) (sym (xor_assoc b c d) ∙ ap (λ (x : ℕ). bit_xor x d) (xor_comm b c) ∙ xor_assoc c b d)
    ∙ sym (xor_assoc a c (bit_xor b d))

turned_both : (x y : ℕ) → x < 2 → y < 2 → turned (bit_xor x y) ≡ bit_xor (turned x) (turned y)
unfolding turned
turned_both x y h k = grind (arith, common_steps)

bit_both : (a b : ℕ) → bit_on (bit_xor a b) ≡ bit_xor (bit_on a) (bit_on b)
bit_both a b =
    let x = a % 2 in
    let y = b % 2 in
    let odd : turned (bit_xor x y) ≡ bit_xor (turned x) (turned y) = turned_both x y (omega arith) (omega arith) in
    bit_is (bit_xor a b) (bit_xor (a / 2) (b / 2)) (bit_xor x y) (xor_shr a b 1) (xor_mod a b 1)
    ∙ ap (bit_xor (bit_xor (a / 2) (b / 2))) odd
    ∙ swapped (a / 2) (b / 2) (turned x) (turned y)
    ∙ sym (ap (λ (z : ℕ). bit_xor z (bit_on b)) (bit_is a (a / 2) x refl refl) ∙ ap (bit_xor (bit_xor (a / 2) (turned x))) (bit_is b (b / 2) y refl refl))

steps_both : (k a b : ℕ) → steps k (bit_xor a b) ≡ bit_xor (steps k a) (steps k b)
unfolding steps
steps_both zero a b = refl
steps_both (suc k) a b = ap (steps k) (bit_both a b) ∙ steps_both k (bit_on a) (bit_on b)

byte_both : (a b : ℕ) → byte_on (bit_xor a b) ≡ bit_xor (byte_on a) (byte_on b)
unfolding steps byte_on
byte_both a b = steps_both 8 a b

zeros_both : (k a b : ℕ) → zeros_on k (bit_xor a b) ≡ bit_xor (zeros_on k a) (zeros_on k b)
zeros_both zero a b = refl
zeros_both (suc k) a b = ap (zeros_on k) (byte_both a b) ∙ zeros_both k (byte_on a) (byte_on b)

-- the tables

-- what one byte of zeros makes of each byte, and of each row the next one
all_rows : REMAINDERS ≡ map (map byte_on) (range_with_len 0 256 ∷ take 15 REMAINDERS)
unfolding byte_on bit_on
all_rows = refl

row_above : (j p : ℕ) → get_or (get_or REMAINDERS j []) p 0 ≡ byte_on (get_or (get_or (range_with_len 0 256 ∷ take 15 REMAINDERS) j []) p 0)
unfolding byte_on bit_on
row_above j p =
    ap (λ (rows : List (List ℕ)). get_or (get_or rows j []) p 0) all_rows
    ∙ ap (λ (row : List ℕ). get_or row p 0) (get_or-map (map byte_on) (range_with_len 0 256 ∷ take 15 REMAINDERS) j [])
    ∙ get_or-map byte_on (get_or (range_with_len 0 256 ∷ take 15 REMAINDERS) j []) p 0

zeros_then : (k c : ℕ) → byte_on (zeros_on k c) ≡ zeros_on (suc k) c
zeros_then zero c = refl
zeros_then (suc k) c = zeros_then k (byte_on c)

remainder_at : (j p : ℕ) → j < 16 → p < 256 → get_or (get_or REMAINDERS j []) p 0 ≡ zeros_on (suc j) p
remainder_at zero p least small = let none : 0 + p ≡ p = omega arith in row_above zero p ∙ ap byte_on (get_or-range_with_len 0 256 p 0 small ∙ none)
remainder_at (suc j) p least small =
    row_above (suc j) p ∙ ap (λ (row : List ℕ). byte_on (get_or row p 0)) (get_or-take 15 REMAINDERS j [] (omega (arith, least)))
    ∙ ap byte_on (remainder_at j p (omega (arith, least)) small) ∙ zeros_then (suc j) p

-- the entry of a byte that z - 1 bytes of zeros follow
pub row_is : (p z : ℕ) → p < 256 → 1 ≤ z → z ≤ 16 → get_or (get_or REMAINDERS (z - 1) []) p 0 ≡ zeros_on z p
row_is p zero small least most = absurd (omega (arith, least))
row_is p (suc j) small least most = let place : suc j - 1 ≡ j = omega arith in rw place (remainder_at j p (omega (arith, most)) small)

-- what bytes of zeros make of the four bytes of a remainder

zeros_split : (k c : ℕ) → zeros_on (suc k) c ≡ bit_xor (zeros_on (suc k) (c % 256)) (zeros_on k (c / 256))
zeros_split k c = ap (zeros_on k) (byte_high c) ∙ zeros_both k (byte_on (c % 256)) (c / 256)

pub word_rows : (z c near mid far last : ℕ) → 4 ≤ z → near ≡ zeros_on z (bit_and c 255) → mid ≡ zeros_on (z - 1) (bit_and (c / 256) 255)
    → far ≡ zeros_on (z - 2) (bit_and (c / 65536) 255) → last ≡ zeros_on (z - 3) (c / 16777216) → bit_xor (bit_xor (bit_xor near mid) far) last ≡ zeros_on z c
word_rows zero c near mid far last least a b d e = absurd (omega (arith, least))
word_rows (suc zero) c near mid far last least a b d e = absurd (omega (arith, least))
word_rows (suc (suc zero)) c near mid far last least a b d e = absurd (omega (arith, least))
word_rows (suc (suc (suc zero))) c near mid far last least a b d e = absurd (omega (arith, least))
word_rows (suc (suc (suc (suc m)))) c near mid far last least a b d e =
    let third : c / 256 / 256 ≡ c / 65536 = omega arith in
    let fourth : c / 65536 / 256 ≡ c / 16777216 = omega arith in
    let three : suc (suc (suc (suc m))) - 1 ≡ suc (suc (suc m)) = omega arith in
    let two : suc (suc (suc (suc m))) - 2 ≡ suc (suc m) = omega arith in
    let one : suc (suc (suc (suc m))) - 3 ≡ suc m = omega arith in
    cc (
      a,
      rw three at b,
      rw two at d,
      rw one at e,
      zeros_split (suc (suc (suc m))) c,
      zeros_split (suc (suc m)) (c / 256),
      zeros_split (suc m) (c / 65536),
      and_mask c 8,
      and_mask (c / 256) 8,
      and_mask (c / 65536) 8,
      xor_assoc near mid (bit_xor far last),
      xor_assoc (bit_xor near mid) far last,
    )

-- bytes of a number

high_on : (v : ℕ) → byte_on (v * 256) ≡ v
unfolding byte_on bit_on
high_on v = grind (arith, common_steps, byte_high (v * 256))

apart : (a v : ℕ) → a < 256 → v * 256 + a ≡ bit_xor a (v * 256)
apart a v small = grind (arith, common_steps, xor_block 8 0 v a 0 small (lit< tt))

-- the lowest byte first
first_on : (k s a v : ℕ) → a < 256 → zeros_on (suc k) (bit_xor s (v * 256 + a)) ≡ zeros_on k (bit_xor (byte_on (bit_xor s a)) v)
first_on k s a v small = grind (arith, common_steps, apart a v small, byte_both (bit_xor s a) (v * 256), high_on v)

abbrev pub AreBytes : List ℕ → Type 0
AreBytes xs = (i : ℕ) → get_or xs i 0 < 256

-- the number of four bytes, the lowest first
abbrev number_of : ℕ → ℕ → ℕ → ℕ → ℕ
number_of a b c d = a + b * 256 + c * 65536 + d * 16777216

-- and of those that are from a place on
abbrev pub word_at : ℕ → List ℕ → ℕ
word_at i xs = number_of (get_or xs i 0) (get_or xs (i + 1) 0) (get_or xs (i + 2) 0) (get_or xs (i + 3) 0)

by_bytes : (a b c d : ℕ) → number_of a b c d ≡ ((d * 256 + c) * 256 + b) * 256 + a
by_bytes a b c d = omega arith

-- the first four bytes
four_on : (s : ℕ) (xs : List ℕ) → 4 ≤ length xs → AreBytes xs → remainder xs s ≡ remainder (drop 4 xs) (zeros_on 4 (bit_xor s (word_at 0 xs)))
four_on s [] long small = absurd (omega (arith, long))
four_on s (a ∷ []) long small = absurd (omega (arith, long))
four_on s (a ∷ b ∷ []) long small = absurd (omega (arith, long))
four_on s (a ∷ b ∷ c ∷ []) long small = absurd (omega (arith, long))
four_on s (a ∷ b ∷ c ∷ d ∷ rest) long small =
    let one = byte_on (bit_xor s a) in
    let two = byte_on (bit_xor one b) in
    ap (remainder rest) (
    sym (first_on 3 s a ((d * 256 + c) * 256 + b) (small 0) ∙ first_on 2 one b (d * 256 + c) (small 1) ∙ first_on 1 two c d (small 2))
    ∙ ap (λ (x : ℕ). zeros_on 4 (bit_xor s x)) (sym (by_bytes a b c d))
    )

pub rest_is : (k : ℕ) (xs : List ℕ) → take (length xs - k) (drop k xs) ≡ drop k xs
rest_is k xs = take_all (length xs - k) (drop k xs) (omega (arith, length-drop k xs))

pub bytes_behind : (k : ℕ) (xs : List ℕ) → AreBytes xs → AreBytes (drop k xs)
bytes_behind k xs small i = subst (λ (b : ℕ). b < 256) (sym (get_or-drop k xs i 0)) (small (k + i))

-- four more
next_on : (s i : ℕ) (xs : List ℕ) → i + 4 ≤ length xs → AreBytes xs → remainder (drop i xs) s ≡ remainder (drop (i + 4) xs) (zeros_on 4 (bit_xor s (word_at i xs)))
next_on s i xs long small =
    four_on s (drop i xs) (omega (arith, long, length-drop i xs)) (bytes_behind i xs small)
    ∙ ap (λ (l : List ℕ). remainder l (zeros_on 4 (bit_xor s (word_at 0 (drop i xs))))) (sym (drop_parts i 4 xs))
    ∙ ap (λ (w : ℕ). remainder (drop (i + 4) xs) (zeros_on 4 (bit_xor s w))) behind
  where
    behind : word_at 0 (drop i xs) ≡ word_at i xs
    behind = let first : i + 0 ≡ i = omega arith in cc (get_or-drop i xs 0 0, get_or-drop i xs 1 0, get_or-drop i xs 2 0, get_or-drop i xs 3 0)

words_both : (a b c d : ℕ) → zeros_on 4 (bit_xor (zeros_on 4 (bit_xor (zeros_on 4 (bit_xor (zeros_on 4 a) b)) c)) d)
    ≡ bit_xor (bit_xor (bit_xor (zeros_on 16 a) (zeros_on 12 b)) (zeros_on 8 c)) (zeros_on 4 d)
words_both a b c d = simp byte_both

last_three : (w x y z : ℕ) → bit_xor w (bit_xor (bit_xor x y) z) ≡ bit_xor (bit_xor (bit_xor w x) y) z
last_three w x y z = sym (ap (λ (v : ℕ). bit_xor v z) (xor_assoc w x y) ∙ xor_assoc w (bit_xor x y) z)

-- the first sixteen
pub sixteen_of : (s first second third fourth w x y z : ℕ) (xs : List ℕ) → 16 ≤ length xs → AreBytes xs
    → first ≡ word_at 0 xs → second ≡ word_at 4 xs → third ≡ word_at 8 xs → fourth ≡ word_at 12 xs
    → w ≡ zeros_on 16 (bit_xor s first) → x ≡ zeros_on 12 second → y ≡ zeros_on 8 third → z ≡ zeros_on 4 fourth
    → remainder (drop 16 xs) (bit_xor w (bit_xor (bit_xor x y) z)) ≡ remainder xs s
sixteen_of s first second third fourth w x y z xs long small f g h i a b d e =
    let one = zeros_on 4 (bit_xor s (word_at 0 xs)) in
    let two = zeros_on 4 (bit_xor one (word_at 4 xs)) in
    let three = zeros_on 4 (bit_xor two (word_at 8 xs)) in
    let words : bit_xor (bit_xor (bit_xor w x) y) z ≡ zeros_on 4 (bit_xor three (word_at 12 xs)) =
    rw (a, b, d, e, f, g, h, i) (sym (words_both (bit_xor s (word_at 0 xs)) (word_at 4 xs) (word_at 8 xs) (word_at 12 xs))) in
    ap (remainder (drop 16 xs)) (last_three w x y z ∙ words)
    ∙ sym (next_on s 0 xs (omega (arith, long)) small ∙ next_on one 4 xs (omega (arith, long)) small
    ∙ next_on two 8 xs (omega (arith, long)) small ∙ next_on three 12 xs (omega (arith, long)) small)

pub after_is : (s b low row : ℕ) → b < 256 → low ≡ bit_and (bit_xor s b) 255 → row ≡ byte_on low → bit_xor row (s / 256) ≡ byte_on (bit_xor s b)
after_is s b low row small is found =
    let x = bit_xor s b in
    let none : b / 256 ≡ 0 = omega arith in
    let high : x / 256 ≡ s / 256 = xor_shr s b 8 ∙ ap (bit_xor (s / 256)) none ∙ xor_zero_r (s / 256) in
    let lowest : row ≡ byte_on (x % 256) = found ∙ ap byte_on (is ∙ and_mask x 8) in
    ap (λ (n : ℕ). bit_xor n (s / 256)) lowest ∙ ap (bit_xor (byte_on (x % 256))) (sym high) ∙ sym (byte_high x)

pub remainder_append : (xs ys : List ℕ) (c : ℕ) → remainder (xs ++ ys) c ≡ remainder ys (remainder xs c)
remainder_append [] ys c = refl
remainder_append (x ∷ xs) ys c = remainder_append xs ys (byte_on (bit_xor c x))

-- Numbers and their bytes: each number has one encoding, and bytes encode the number that is in them.
use Rattle.std.proofs.Common.{◌≡◌, ℕ, set, zero, suc, ◌+◌, ◌*◌, ◌/◌, ◌%◌, ◌^◌, ◌-◌, ◌<◌, ◌≤◌, List, [], ◌∷◌, ◌++◌, length, take, drop, slice_index, refl, sym, ap, ◌∙◌, arith, add-zero}
use Rattle.std.proofs.Math.Nat.{add-mul-mod_self_left, add-mul-div_left, div-div-eq-div-mul, div-one, mod-eq_of_lt, mod-lt, div-eq_of_lt, pow-succ'}
use Rattle.std.proofs.Math.Seq.{take-add}
use Rattle.std.proofs.lemmas.List.{length-drop, length-take, drop_at, get_or-drop, drop-append-le, append-nil}
use Rattle.std.proofs.lemmas.List.{drop_all, take_all, take_more_set}
use Rattle.std.proofs.lemmas.Slice.{take-put_mid, between_to_end}
use Rattle.std.specs.List.{between}
use borrow.Rule.Slice.PartMut.{put_mid}
use Rattle.std.specs.Int.{byte_at, bytes_low_first}
use Rattle.byteorder.specs.Endian.{little_from}
use Rattle.byteorder.specs.Numbers.{little_from-bytes, little_from-cons, little_from-lt, little_from-append, little_number-reads_back, length-bytes_low_first}
use Rattle.tb_records.specs.Numbers.{le_bytes, le_at}

-- the bytes above the lowest are those of the number without it
bytes_above : (j n x : ℕ) → bytes_low_first (suc j) n x ≡ bytes_low_first j n (x / 256)
bytes_above j zero x = refl
bytes_above zero (suc n) x = ap (λ (bs : List ℕ). x / 256 % 256 ∷ bs) (bytes_above 1 n x)
bytes_above (suc j) (suc n) x =
    let head : x / 256 ^ suc (suc j) ≡ x / 256 / 256 ^ suc j =
    ap (λ (p : ℕ). x / p) (pow-succ' 256 (suc j)) ∙ sym (div-div-eq-div-mul x 256 (256 ^ suc j)) in
    ap (λ (y : ℕ). y % 256 ∷ bytes_low_first (suc (suc (suc j))) n x) head
    ∙ ap (λ (bs : List ℕ). byte_at (suc j) (x / 256) ∷ bs) (bytes_above (suc (suc j)) n x)

-- the bytes of the number that n bytes hold
bytes_of_number : (n : ℕ) (xs : List ℕ) → n ≤ length xs → ((i : ℕ) → slice_index xs i < 256) → bytes_low_first 0 n (little_from 0 n xs) ≡ take n xs
bytes_of_number zero xs h b = refl
bytes_of_number (suc n) [] h b = absurd (omega arith)
bytes_of_number (suc n) (x ∷ xs) h b =
    let small : x < 256 = b 0 in
    let rest : little_from 1 n (x ∷ xs) ≡ little_from 0 n xs = little_from-cons 0 n x xs in
    let low : (x + 256 * little_from 0 n xs) % 256 ≡ x = add-mul-mod_self_left x 256 (little_from 0 n xs) ∙ mod-eq_of_lt small in
    let high : (x + 256 * little_from 0 n xs) / 256 ≡ little_from 0 n xs =
    add-mul-div_left x (little_from 0 n xs) (omega arith) ∙ ap (λ (q : ℕ). q + little_from 0 n xs) (div-eq_of_lt small) ∙ omega arith in
    let all : bytes_low_first 0 n (little_from 0 n xs) ≡ take n xs = bytes_of_number n xs (omega arith) (λ i. b (suc i)) in
    ap (λ (l : ℕ). (x + 256 * l) % 256 ∷ bytes_low_first 1 n (x + 256 * l)) rest
    ∙ ap (λ (y : ℕ). y ∷ bytes_low_first 1 n (x + 256 * little_from 0 n xs)) low
    ∙ ap (λ (bs : List ℕ). x ∷ bs) (bytes_above 0 n (x + 256 * little_from 0 n xs) ∙ ap (bytes_low_first 0 n) high ∙ all)

-- the bytes from a place on are those of the number without its lower bytes
bytes_from : (j n x : ℕ) → bytes_low_first j n x ≡ bytes_low_first 0 n (x / 256 ^ j)
bytes_from zero n x = ap (bytes_low_first 0 n) (sym (div-one x))
bytes_from (suc j) n x =
    bytes_above j n x
    ∙ bytes_from j n (x / 256)
    ∙ ap (bytes_low_first 0 n) (div-div-eq-div-mul x 256 (256 ^ j) ∙ ap (λ (p : ℕ). x / p) (sym (pow-succ' 256 j)))

-- each byte of a number is below 256
bytes_fit : (j n x i : ℕ) → slice_index (bytes_low_first j n x) i < 256
bytes_fit j zero x i = omega arith
bytes_fit zero (suc n) x zero = mod-lt x (omega arith)
bytes_fit (suc j) (suc n) x zero = mod-lt (x / 256 ^ suc j) (omega arith)
bytes_fit j (suc n) x (suc i) = bytes_fit (suc j) n x i

-- the lowest bytes of a number are those of its remainder
bytes_below : (n x : ℕ) → bytes_low_first 0 n (x % 256 ^ n) ≡ bytes_low_first 0 n x
bytes_below n x =
    let bytes : List ℕ = bytes_low_first 0 n x in
    let long : length bytes ≡ n = length-bytes_low_first 0 n x in
    let number : little_from 0 n bytes ≡ x % 256 ^ n =
    ap (little_from 0 n) (sym (append-nil bytes)) ∙ little_from-bytes n 0 x [] ∙ ap (λ (y : ℕ). y % 256 ^ n) (div-one x) in
    ap (bytes_low_first 0 n) (sym number) ∙ bytes_of_number n bytes (omega (arith, long)) (bytes_fit 0 n x) ∙ take_all n bytes (omega (arith, long))

-- the bytes of a number of 16 are those of its two halves
pub two_halves : (x : ℕ) → le_bytes 8 (x % 2 ^ 64) ++ le_bytes 8 (x / 2 ^ 64) ≡ le_bytes 16 x
unfolding le_bytes
two_halves x =
    ap (λ (bs : List ℕ). bs ++ bytes_low_first 0 8 (x / 2 ^ 64)) (bytes_below 8 x)
    ∙ ap (λ (bs : List ℕ). bytes_low_first 0 8 x ++ bs) (sym (bytes_from 8 8 x))

-- a number that fits has one encoding
pub le_bytes-one : (n x y : ℕ) → x < 256 ^ n → y < 256 ^ n → le_bytes n x ≡ le_bytes n y → x ≡ y
unfolding le_bytes
le_bytes-one n x y hx hy e =
    sym (little_number-reads_back n x [] hx) ∙ ap (λ (bs : List ℕ). little_from 0 n (bs ++ [])) e ∙ little_number-reads_back n y [] hy

-- the number in n bytes fits them
pub le_at-fits : (n at : ℕ) (xs : List ℕ) → ((i : ℕ) → slice_index xs i < 256) → le_at n at xs < 256 ^ n
unfolding le_at
le_at-fits n at xs b = little_from-lt 0 n (drop at xs) (λ k. let e = get_or-drop at xs k 0 in omega (arith, b (at + k)))

-- the bytes from a place on are the encoding of the number that is there
pub le_at-spelled : (n at : ℕ) (xs : List ℕ) → at + n ≤ length xs → ((i : ℕ) → slice_index xs i < 256) → take (at + n) xs ≡ take at xs ++ le_bytes n (le_at n at xs)
unfolding le_at le_bytes
le_at-spelled n at xs h b =
    let bytes : bytes_low_first 0 n (little_from 0 n (drop at xs)) ≡ take n (drop at xs) =
    bytes_of_number n (drop at xs) (omega (arith, length-drop at xs)) (λ k. let e = get_or-drop at xs k 0 in omega (arith, b (at + k))) in
    take-add at n xs ∙ ap (λ (bs : List ℕ). take at xs ++ bs) (sym bytes)

-- more bytes after them change no number
pub le_at-append : (n at : ℕ) (xs ys : List ℕ) → at + n ≤ length xs → le_at n at (xs ++ ys) ≡ le_at n at xs
unfolding le_at
le_at-append n at xs ys h =
    ap (little_from 0 n) (drop-append-le at xs ys (omega arith)) ∙ little_from-append n (drop at xs) ys (omega (arith, length-drop at xs))

-- the number after the bytes in front
pub le_at-last : (n at x : ℕ) (front : List ℕ) → length front ≡ at → x < 256 ^ n → le_at n at (front ++ le_bytes n x) ≡ x
unfolding le_at le_bytes
le_at-last n at x front h fits =
    ap (little_from 0 n) (drop_at front (bytes_low_first 0 n x) at h ∙ sym (append-nil (bytes_low_first 0 n x))) ∙ little_number-reads_back n x [] fits

-- after a write of n bytes to a part of n bytes
pub put_number : (n at x : ℕ) (xs bytes : List ℕ) → at + n ≤ length xs → bytes ≡ bytes_low_first 0 n x ++ drop n (between at (at + n) xs) → take (at + n) (put_mid at (at + n - at) xs bytes) ≡ take at xs ++ le_bytes n x
unfolding le_bytes
put_number n at x xs bytes h e =
    let part : List ℕ = between at (at + n) xs in
    let whole : length part ≤ n = simp (length-take, length-drop) (omega arith) in
    let is : bytes ≡ bytes_low_first 0 n x =
    e ∙ ap (λ (rest : List ℕ). bytes_low_first 0 n x ++ rest) (drop_all n part whole) ∙ append-nil (bytes_low_first 0 n x) in
    let long = length-bytes_low_first 0 n x in
    take-put_mid at (at + n - at) xs bytes (at + n) (omega (arith, ap length is)) (omega arith) ∙ ap (λ (bs : List ℕ). take at xs ++ bs) is

-- after a write of one byte
pub put_byte : (at x : ℕ) (xs : List ℕ) → at < length xs → x < 256 → take (at + 1) (set xs at x) ≡ take at xs ++ le_bytes 1 x
unfolding le_bytes
put_byte at x xs h fits = take_more_set xs at x h ∙ ap (λ (b : ℕ). take at xs ++ b ∷ []) (sym (mod-eq_of_lt fits))

-- what a read of the rest of a slice gives
pub number_at : (n at end x : ℕ) (xs : List ℕ) → length xs ≤ end → x ≡ little_from 0 n (between at end xs) → x ≡ le_at n at xs
unfolding le_at
number_at n at end x xs h e = e ∙ ap (little_from 0 n) (between_to_end xs at end h)

-- what a read of a byte gives
pub byte_at_place : (at : ℕ) (xs : List ℕ) → slice_index xs at ≡ le_at 1 at xs
unfolding le_at
byte_at_place at xs =
    let place : slice_index xs (at + 0) ≡ slice_index xs at = ap (λ (k : ℕ). slice_index xs k) (add-zero at) in
    let e : slice_index (drop at xs) 0 ≡ slice_index xs (at + 0) = get_or-drop at xs 0 0 in
    omega arith

-- the bytes of a number that was read
pub number_spelled : (n at x : ℕ) (xs : List ℕ) → at + n ≤ length xs → ((i : ℕ) → slice_index xs i < 256) → x ≡ le_at n at xs → take (at + n) xs ≡ take at xs ++ le_bytes n x
number_spelled n at x xs h b e = le_at-spelled n at xs h b ∙ ap (λ (y : ℕ). take at xs ++ le_bytes n y) (sym e)

-- two equal lists, cut at one place
pub split_at : (front start xs ys : List ℕ) → length front ≡ length start → front ++ xs ≡ start ++ ys → (front ≡ start) × (xs ≡ ys)
split_at [] [] xs ys h e = (refl, e)
split_at (x ∷ front) (y ∷ start) xs ys h e = grind (arith, split_at front start xs ys)
split_at front start xs ys h e = absurd (omega arith)

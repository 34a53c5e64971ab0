-- A block that is written is read as it was.
use Rattle.std.proofs.Common.{◌≡◌, ℕ, suc, ◌+◌, ◌*◌, ◌/◌, ◌%◌, ◌^◌, ◌<◌, ◌≤◌, ◌==◌, ◌&&◌, Bool, true, List, [], ◌∷◌, ◌++◌, length, take, flat_map, refl, sym, ◌∙◌, ap, arith, nat_le, length-append, if◌then◌else◌}
use Rattle.std.proofs.lemmas.Grind.{common_steps}
use Rattle.std.proofs.lemmas.List.{append_assoc, take_at, drop_at}
use Rattle.std.proofs.lemmas.Bool.Decides.{nat_tests}
use Rattle.std.proofs.lemmas.Nat.{from_le_bytes-to_le_bytes_4, xor_of_32}
use Rattle.std.specs.Int.{w32, from_le_bytes, to_le_bytes}
use Rattle.std.specs.Int.Bits.{bit_xor}
use Rattle.std.specs.List.{AllByRecursion}
use Rattle.tb_file_journal.specs.Checksum.{checksum, remainder, byte_on, bit_on}
use Rattle.tb_file_journal.specs.Contents.{Fits, size_bytes, latch_closed, block, at_rest, Spoiled, Whole, behind_latch, front, Records, with_record, with_records, walk, blocks_length}
use Rattle.tb_file_journal.proofs.BlockWalks.{walk-whole, ended}

-- sizes and sums fit their bytes

bit_fits : (c : ℕ) → c < 2 ^ 32 → bit_on c < 2 ^ 32
unfolding bit_on
bit_fits c h = xor_of_32 (c / 2) _ (omega arith) (poly (c % 2 == 1))
  where
    poly : (b : Bool) → (if b then 0x82F63B78 else 0) < 2 ^ 32
    poly b = grind (arith, common_steps)

byte_fits : (c : ℕ) → c < 2 ^ 32 → byte_on c < 2 ^ 32
unfolding byte_on
byte_fits c h = bit_fits _ (bit_fits _ (bit_fits _ (bit_fits _ (bit_fits _ (bit_fits _ (bit_fits _ (bit_fits c h)))))))

remainder_fits : (bytes : List ℕ) (c : ℕ) → c < 2 ^ 32 → AllByRecursion (λ byte. byte < 256) bytes → remainder bytes c < 2 ^ 32
remainder_fits [] c h all = h
remainder_fits (byte ∷ bytes) c h all = remainder_fits bytes (byte_on (bit_xor c byte)) (byte_fits (bit_xor c byte) (xor_of_32 c byte h (omega (arith, all.0)))) all.1

pub checksum_fits : (bytes : List ℕ) → AllByRecursion (λ byte. byte < 256) bytes → checksum bytes < 2 ^ 32
checksum_fits bytes all = xor_of_32 (remainder bytes 0xFFFFFFFF) 0xFFFFFFFF (remainder_fits bytes 0xFFFFFFFF (omega arith) all) (omega arith)

three_bytes : (n : ℕ) → n < 2 ^ 24 → n % 256 + n / 256 % 256 * 256 + n / 65536 % 256 * 65536 + 0 ≡ n
three_bytes n h = grind (arith, common_steps, from_le_bytes-to_le_bytes_4 n (omega arith))

pub size_read : (bytes : List ℕ) → length bytes < 2 ^ 24 → from_le_bytes w32 (size_bytes bytes ++ 0 ∷ []) ≡ length bytes
size_read bytes h = three_bytes (length bytes) h

size_small : (bytes : List ℕ) → AllByRecursion (λ byte. byte < 256) (size_bytes bytes)
size_small bytes = let n = length bytes in (below n, (below (n / 256), (below (n / 65536), tt)))
  where
    below : (k : ℕ) → k % 256 < 256
    below k = omega arith

small_append : (xs ys : List ℕ) → AllByRecursion (λ byte. byte < 256) xs → AllByRecursion (λ byte. byte < 256) ys → AllByRecursion (λ byte. byte < 256) (xs ++ ys)
small_append [] ys a b = b
small_append (x ∷ xs) ys a b = (a.0, small_append xs ys a.1 b)

choice_true : {X : Type 0} (b : Bool) (x y : X) → b ≡ true → (if b then x else y) ≡ x
choice_true b x y is = grind (arith, common_steps)

both : (a b : Bool) → a ≡ true → b ≡ true → (a && b) ≡ true
both a b x y = ap (λ (z : Bool). z && b) x ∙ y

-- a block at the head, whatever follows
pub front-block : (bytes others : List ℕ) → Fits bytes → front (block bytes ++ others) ≡ Whole bytes
front-block bytes others fits =
    let size = size_bytes bytes in
    let sum = from_le_bytes w32 (to_le_bytes w32 (checksum (size ++ bytes))) in
    let count = size_read bytes fits.short in
    let room : nat_le (from_le_bytes w32 (size ++ 0 ∷ [])) (length (bytes ++ others)) ≡ true = room_for _ _ (omega (arith, count, length-append bytes others)) in
    let whole : take (from_le_bytes w32 (size ++ 0 ∷ [])) (bytes ++ others) ≡ bytes = take_at bytes others _ (sym count) in
    let sums : (sum == checksum (size ++ take (from_le_bytes w32 (size ++ 0 ∷ [])) (bytes ++ others))) ≡ true =
    equal _ _ (from_le_bytes-to_le_bytes_4 (checksum (size ++ bytes)) (checksum_fits (size ++ bytes) (small_append size bytes (size_small bytes) fits.bytes)) ∙ ap (λ (l : List ℕ). checksum (size ++ l)) (sym whole)) in
    let read : behind_latch size sum (bytes ++ others) ≡ Whole bytes = choice_true _ (Whole (take (from_le_bytes w32 (size ++ 0 ∷ [])) (bytes ++ others))) Spoiled (both _ _ room sums) ∙ ap Whole whole in
    read
  where
    room_for : (a b : ℕ) → a ≤ b → nat_le a b ≡ true
    room_for a b le = grind (arith, nat_tests)

    equal : (a b : ℕ) → a ≡ b → (a == b) ≡ true
    equal a b is = grind (arith, nat_tests)

pub length-block : (bytes : List ℕ) → length (block bytes) ≡ 11 + length bytes
length-block bytes = let e : length (block bytes) ≡ suc (suc (suc (suc (suc (suc (suc (suc (suc (suc (suc (length bytes))))))))))) = refl in omega (arith, e)

-- blocks of records, and then whatever follows them
pub walk-blocks : (records : List (List ℕ)) (at : ℕ) (others : List ℕ) → AllByRecursion Fits records → walk 0 at (flat_map block records ++ others) ≡ with_records records (walk 0 (at + blocks_length records) others)
walk-blocks [] at others fits = let e : at ≡ at + 0 = omega arith in ap (λ (a : ℕ). walk 0 a others) e
walk-blocks (r ∷ records) at others fits =
    let rest = flat_map block records ++ others in
    let n = 11 + length r in
    let k = blocks_length records in
    let place : at + n + k ≡ at + (n + k) = omega arith in
    ap (walk 0 at) (append_assoc (block r) (flat_map block records) others)
    ∙ walk-whole (block r ++ rest) r at (front-block r rest fits.0)
    ∙ ap (λ (l : List ℕ). with_record r (walk 0 (at + n) l)) (drop_at (block r) rest n (length-block r))
    ∙ ap (with_record r) (walk-blocks records (at + n) others fits.1 ∙ ap (λ (a : ℕ). with_records records (walk 0 a others)) place)

pub length-blocks : (records : List (List ℕ)) → length (flat_map block records) ≡ blocks_length records
length-blocks [] = refl
length-blocks (r ∷ records) = omega (arith, length-append (block r) (flat_map block records), length-block r, length-blocks records)

pub walk-at_rest : (records : List (List ℕ)) (at : ℕ) → AllByRecursion Fits records → walk 0 at (at_rest records) ≡ Records records
walk-at_rest records at fits = walk-blocks records at latch_closed fits ∙ ended records (at + blocks_length records) latch_closed refl

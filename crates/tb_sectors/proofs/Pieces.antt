-- A batch is cut into pieces, and its sectors have its bytes.
use Rattle.std.proofs.Common.{◌≡◌, ℕ, zero, suc, ◌+◌, ◌-◌, ◌≤◌, ◌<◌, ap, Bool, true, false, List, [], ◌∷◌, ◌++◌, length, take, drop, flat_map, replicate, min, ⊎_elim, refl, sym, ◌∙◌, arith, append_assoc, length-append, length-drop}
use Rattle.std.specs.Prelude.{◌==◌, ◌&&◌, not, if◌then◌else◌}
use Rattle.std.proofs.lemmas.List.{append-nil, take-append-drop, take_min}
use Rattle.std.proofs.lemmas.Bool.{cases_lt}
use Rattle.std.proofs.lemmas.Bool.Decides.{nat_tests}
use Rattle.std.proofs.Math.ListN.{drop_of_length-le}
use Rattle.std.specs.Int.{w32, to_le_bytes}
use Rattle.tb_sectors.specs.Checksum.{remainder}
use Rattle.tb_sectors.specs.Stamped.{Stamped, blank, grown, further, goes_on, further_sectors}
use Rattle.tb_sectors.specs.Encoding.{number_bytes, latch_bytes, sector_bytes_of, raw, raws, pieces, pieces_of, open_sector, cut_batch, cleared_bytes, whole_sector}
use Rattle.tb_sectors.specs.private.Latched.{latched, latched_batch, latched_further}

-- any number that is large enough gives the same pieces
enough : (m n : ℕ) (bytes : List ℕ) → length bytes ≤ m → length bytes ≤ n → pieces m bytes ≡ pieces n bytes
enough zero zero bytes h k = refl
enough zero (suc n) [] h k = refl
enough zero (suc n) (b ∷ bytes) h k = absurd (omega arith)
enough (suc m) zero [] h k = refl
enough (suc m) zero (b ∷ bytes) h k = absurd (omega arith)
enough (suc m) (suc n) [] h k = refl
enough (suc m) (suc n) (b ∷ bytes) h k =
    ap (λ (l : List (List ℕ)). take 492 (b ∷ bytes) ∷ l)
    (enough m n (drop 492 (b ∷ bytes)) (omega (arith, length-drop 492 (b ∷ bytes))) (omega (arith, length-drop 492 (b ∷ bytes))))

-- the first piece, and the others
next_piece : (bytes : List ℕ) → 0 < length bytes → pieces_of bytes ≡ take 492 bytes ∷ pieces_of (drop 492 bytes)
next_piece [] some = absurd (omega arith)
next_piece (b ∷ bytes) some =
    ap (λ (l : List (List ℕ)). take 492 (b ∷ bytes) ∷ l)
    (enough (length bytes) (length (drop 492 (b ∷ bytes))) (drop 492 (b ∷ bytes)) (omega (arith, length-drop 492 (b ∷ bytes))) (omega arith))

goes_on_some : (bytes : List ℕ) → 0 < length bytes → goes_on (pieces_of bytes) ≡ true
goes_on_some bytes some = ap goes_on (next_piece bytes some)

goes_on_none : (bytes : List ℕ) → length bytes ≡ 0 → goes_on (pieces_of bytes) ≡ false
goes_on_none [] none = refl
goes_on_none (b ∷ bytes) none = absurd (omega arith)

-- the pieces have all bytes
joined : (n : ℕ) (bytes : List ℕ) → length bytes ≤ n → flat_map (λ (piece : List ℕ). piece) (pieces n bytes) ≡ bytes
joined zero [] h = refl
joined zero (b ∷ bytes) h = absurd (omega arith)
joined (suc n) [] h = refl
joined (suc n) (b ∷ bytes) h =
    ap (λ (l : List ℕ). take 492 (b ∷ bytes) ++ l) (joined n (drop 492 (b ∷ bytes)) (omega (arith, length-drop 492 (b ∷ bytes))))
    ∙ take-append-drop 492 (b ∷ bytes)

pub pieces_join : (bytes : List ℕ) → flat_map (λ (piece : List ℕ). piece) (pieces_of bytes) ≡ bytes
pieces_join bytes = joined (length bytes) bytes (omega arith)

-- the bytes of the sectors of what is left, one sector at a time

-- a sector of which the latch is open yet, with those after it: the last one of them gets the latch
pub latch_at_the_end : (closed : Bool) (number begun ends next : ℕ) (bytes : List ℕ) (more : List (List ℕ))
    → raws (latched_batch closed (record { number = number; begun = begun; ends = ends; bytes = bytes; closed = false } ∷ further_sectors next more))
    ≡ raw (record { number = number; begun = begun; ends = ends; bytes = bytes; closed = not (goes_on more) && closed }) ++ raws (latched_batch closed (further_sectors next more))
latch_at_the_end true number begun ends next bytes [] = refl
latch_at_the_end true number begun ends next bytes (p ∷ more) = refl
latch_at_the_end false number begun ends next bytes [] = refl
latch_at_the_end false number begun ends next bytes (p ∷ more) = refl

pub no_more : (closed : Bool) (number : ℕ) (bytes : List ℕ) → length bytes ≡ 0 → latched_further closed number bytes ≡ []
no_more true number [] none = refl
no_more false number [] none = refl
no_more closed number (b ∷ bytes) none = absurd (omega arith)

not_not : (b : Bool) → not (not b) ≡ b
not_not true = refl
not_not false = refl

pub one_more : (closed : Bool) (number : ℕ) (bytes : List ℕ) (last : Bool) → 0 < length bytes → goes_on (pieces_of (drop 492 bytes)) ≡ not last
    → latched_further closed number bytes ≡ raw (latched (last && closed) (further number (take 492 bytes) (not last))) ++ latched_further closed number (drop 492 bytes)
one_more closed number bytes last some is =
    let piece = take 492 bytes in
    let more = pieces_of (drop 492 bytes) in
    ap (λ (l : List (List ℕ)). raws (latched_batch closed (further_sectors number l))) (next_piece bytes some)
    ∙ latch_at_the_end closed number 0 (if goes_on more then length piece + 1 else length piece) number piece more
    ∙ ap (λ (b : Bool). raw (latched (not b && closed) (further number piece b)) ++ latched_further closed number (drop 492 bytes)) is
    ∙ ap (λ (b : Bool). raw (latched (b && closed) (further number piece (not last))) ++ latched_further closed number (drop 492 bytes)) (not_not last)

-- the code's steps

pub sector_built : (o kept bytes numbers end zeros latch first second third fourth fifth : List ℕ) (number begun used ends sum : ℕ) (closed : Bool)
    → used ≡ length kept + length bytes → numbers ≡ number_bytes number begun used ends → zeros ≡ take (492 - used) (replicate 492 0)
    → sum ≡ remainder (numbers ++ ((kept ++ bytes) ++ zeros)) 0 → latch ≡ latch_bytes closed → end ≡ latch ++ to_le_bytes w32 sum
    → first ≡ o ++ numbers → second ≡ first ++ end → third ≡ second ++ kept → fourth ≡ third ++ bytes → fifth ≡ fourth ++ zeros
    → fifth ≡ o ++ raw (record { number = number; begun = begun; ends = ends; bytes = kept ++ bytes; closed = closed })
unfolding raw
sector_built o kept bytes numbers end zeros latch first second third fourth fifth number begun used ends sum closed is named blank summed latches ended p q r s t =
    let e : used ≡ length (kept ++ bytes) = is ∙ sym (length-append kept bytes) in
    let z : zeros ≡ replicate (492 - length (kept ++ bytes)) 0 = blank ∙ shorter (492 - used) 492 (omega arith) ∙ ap (λ (u : ℕ). replicate (492 - u) 0) e in
    let n : numbers ≡ number_bytes number begun (length (kept ++ bytes)) ends = named ∙ ap (λ (u : ℕ). number_bytes number begun u ends) e in
    t ∙ ap (λ (l : List ℕ). l ++ zeros) (s ∙ ap (λ (l : List ℕ). l ++ bytes) (r ∙ ap (λ (l : List ℕ). l ++ kept) (q ∙ ap (λ (l : List ℕ). l ++ end) p)))
    ∙ regroup o numbers end kept bytes zeros
    ∙ ap (λ (l : List ℕ). o ++ ((numbers ++ l) ++ ((kept ++ bytes) ++ zeros))) (ended ∙ ap (λ (l : List ℕ). l ++ to_le_bytes w32 sum) latches ∙ ap (λ (m : ℕ). latch_bytes closed ++ to_le_bytes w32 m) summed)
    ∙ ap (λ (l : List ℕ). o ++ sector_bytes_of numbers closed ((kept ++ bytes) ++ l)) z
    ∙ ap (λ (l : List ℕ). o ++ sector_bytes_of l closed ((kept ++ bytes) ++ replicate (492 - length (kept ++ bytes)) 0)) n
  where
    regroup : (a b c d e f : List ℕ) → ((((a ++ b) ++ c) ++ d) ++ e) ++ f ≡ a ++ ((b ++ c) ++ ((d ++ e) ++ f))
    regroup a b c d e f = simp append_assoc

    shorter : (n m : ℕ) → n ≤ m → take n (replicate m 0) ≡ replicate {A = ℕ} n 0
    shorter zero m le = refl
    shorter (suc n) zero le = absurd (omega arith)
    shorter (suc n) (suc m) le = ap (λ (l : List ℕ). 0 ∷ l) (shorter n m (omega arith))

goes_on_is : (bytes : List ℕ) (none : Bool) → none ≡ (length bytes == 0) → goes_on (pieces_of bytes) ≡ not none
goes_on_is [] none is = sym (ap not is)
goes_on_is (b ∷ bytes) none is = goes_on_some (b ∷ bytes) (omega arith) ∙ sym (ap not (is ∙ not_zero (length (b ∷ bytes)) (omega arith)))
  where
    not_zero : (n : ℕ) → 0 < n → (n == 0) ≡ false
    not_zero n some = grind (arith, nat_tests)

take_up_to : (k n : ℕ) (bytes : List ℕ) → k ≡ min n (length bytes) → take k bytes ≡ take n bytes
take_up_to k n bytes is = ap (λ (j : ℕ). take j bytes) is ∙ take_min n bytes

drop_up_to : (k n : ℕ) (bytes : List ℕ) → k ≡ min n (length bytes) → drop k bytes ≡ drop n bytes
drop_up_to k n bytes is =
    ⊎_elim (λ less. ap (λ (j : ℕ). drop j bytes) (omega (arith, is, less)))
    (λ le. drop_of_length-le bytes {i = k} (omega (arith, is, le)) ∙ sym (drop_of_length-le bytes {i = n} (omega (arith, le))))
    (cases_lt n (length bytes))

pub further_step : (out out2 target rest piece more : List ℕ) (number k : ℕ) (last closed : Bool) → 0 < length rest → k ≡ min 492 (length rest)
    → piece ≡ take k rest → more ≡ drop k rest → last ≡ (length more == 0) → out2 ≡ out ++ raw (latched (last && closed) (further number piece (not last)))
    → out ++ latched_further closed number rest ≡ target → out2 ++ latched_further closed number more ≡ target
further_step out out2 target rest piece more number k last closed some is p m l o before =
    let front : piece ≡ take 492 rest = p ∙ take_up_to k 492 rest is in
    let behind : more ≡ drop 492 rest = m ∙ drop_up_to k 492 rest is in
    let one = raw (latched (last && closed) (further number (take 492 rest) (not last))) in
    ap (λ (x : List ℕ). x ++ latched_further closed number more) (o ∙ ap (λ (x : List ℕ). out ++ raw (latched (last && closed) (further number x (not last)))) front)
    ∙ ap (λ (x : List ℕ). (out ++ one) ++ latched_further closed number x) behind
    ∙ append_assoc out one (latched_further closed number (drop 492 rest))
    ∙ ap (λ (x : List ℕ). out ++ x) (sym (one_more closed number rest last some
    (ap (λ (x : List ℕ). goes_on (pieces_of x)) (sym behind) ∙ goes_on_is more last l)))
    ∙ before

pub batch_built : (out out1 out2 kept bytes first more : List ℕ) (number begun ends k : ℕ) (last closed closes : Bool) → k ≡ min (492 - length kept) (length bytes)
    → first ≡ take k bytes → more ≡ drop k bytes → last ≡ (length more == 0) → ends ≡ (if last then length kept + length first else length kept)
    → closes ≡ (last && closed) → out1 ≡ out ++ raw (record { number = number + 1; begun = begun + 1; ends = ends; bytes = kept ++ first; closed = closes })
    → out2 ≡ out1 ++ latched_further closed (number + 1) more
    → out2 ≡ out ++ raws (latched_batch closed (cut_batch (open_sector number begun kept) bytes))
batch_built out out1 out2 kept bytes first more number begun ends k last closed closes is f m l e h o p =
    let n = 492 - length kept in
    let front : first ≡ take n bytes = f ∙ take_up_to k n bytes is in
    let behind : more ≡ drop n bytes = m ∙ drop_up_to k n bytes is in
    let on : goes_on (pieces_of (drop n bytes)) ≡ not last = ap (λ (x : List ℕ). goes_on (pieces_of x)) (sym behind) ∙ goes_on_is more last l in
    let grows : record { number = number + 1; begun = begun + 1; ends = ends; bytes = kept ++ first; closed = closes }
    ≡ latched (not (goes_on (pieces_of (drop n bytes))) && closed) (grown (open_sector number begun kept) (take n bytes) (goes_on (pieces_of (drop n bytes))))
    = ap (λ (b : Bool). record { number = number + 1; begun = begun + 1; ends = ends; bytes = kept ++ first; closed = b }) h
    ∙ ap (λ (x : ℕ). record { number = number + 1; begun = begun + 1; ends = x; bytes = kept ++ first; closed = last && closed }) (e ∙ which last kept first)
    ∙ ap (λ (x : List ℕ). latched (last && closed) (grown (open_sector number begun kept) x (not last))) front
    ∙ ap (λ (b : Bool). latched (b && closed) (grown (open_sector number begun kept) (take n bytes) (not last))) (sym (not_not last))
    ∙ ap (λ (b : Bool). latched (not b && closed) (grown (open_sector number begun kept) (take n bytes) b)) (sym on) in
    let first_one = raw (latched (not (goes_on (pieces_of (drop n bytes))) && closed) (grown (open_sector number begun kept) (take n bytes) (goes_on (pieces_of (drop n bytes))))) in
    p ∙ ap (λ (x : List ℕ). x ++ latched_further closed (number + 1) more) (o ∙ ap (λ (s : Stamped). out ++ raw s) grows)
    ∙ append_assoc out first_one (latched_further closed (number + 1) more)
    ∙ ap (λ (x : List ℕ). out ++ (first_one ++ latched_further closed (number + 1) x)) behind
    ∙ ap (λ (x : List ℕ). out ++ x) (sym (latch_at_the_end closed (number + 1) (begun + 1)
    (if goes_on (pieces_of (drop n bytes)) then length kept else length (kept ++ take n bytes)) (number + 1) (kept ++ take n bytes) (pieces_of (drop n bytes))))
  where
    which : (last : Bool) (kept first : List ℕ) → (if last then length kept + length first else length kept) ≡ (if not last then length kept else length (kept ++ first))
    which true kept first = sym (length-append kept first)
    which false kept first = refl

-- clearing

pub no_blank : (out : List ℕ) → out ≡ out ++ raws (replicate 0 blank)
no_blank out = sym (append-nil out)

more_blanks : (n : ℕ) → raws (replicate n blank) ++ raw blank ≡ raws (replicate (suc n) blank)
more_blanks zero = sym (append-nil (raw blank))
more_blanks (suc n) = append_assoc (raw blank) (raws (replicate n blank)) (raw blank) ∙ ap (λ (l : List ℕ). raw blank ++ l) (more_blanks n)

pub one_blank : (out before after : List ℕ) (n : ℕ) → before ≡ out ++ raws (replicate n blank) → after ≡ before ++ raw blank → after ≡ out ++ raws (replicate (n + 1) blank)
one_blank out before after n is more =
    more ∙ ap (λ (l : List ℕ). l ++ raw blank) is ∙ append_assoc out (raws (replicate n blank)) (raw blank) ∙ ap (λ (l : List ℕ). out ++ l) (more_blanks n)
    ∙ ap (λ (k : ℕ). out ++ raws (replicate k blank)) (let e : suc n ≡ n + 1 = omega arith in e)

pub cleared_built : (out first second kept : List ℕ) (number begun ends torn : ℕ) → ends ≡ length kept
    → first ≡ out ++ raw (record { number = number; begun = begun; ends = ends; bytes = kept ++ []; closed = false }) → second ≡ first ++ raws (replicate torn blank)
    → second ≡ out ++ cleared_bytes (whole_sector number begun kept) torn
cleared_built out first second kept number begun ends torn e p q =
    q ∙ ap (λ (l : List ℕ). l ++ raws (replicate torn blank))
    (p ∙ ap (λ (n : ℕ). out ++ raw (record { number = number; begun = begun; ends = n; bytes = kept ++ []; closed = false })) e
    ∙ ap (λ (l : List ℕ). out ++ raw (record { number = number; begun = begun; ends = length kept; bytes = l; closed = false })) (append-nil kept))
    ∙ append_assoc out (raw (whole_sector number begun kept)) (raws (replicate torn blank))

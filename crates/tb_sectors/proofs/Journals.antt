-- A journal after any batches is at rest, and has their bytes.
use Rattle.std.proofs.Common.{◌≡◌, inl, inr, ⊎_elim, ℕ, zero, suc, ◌+◌, ◌*◌, ◌/◌, ◌≤◌, ◌<◌, ap, Bool, true, false, List, [], ◌∷◌, ◌++◌, length, take, flat_map, replicate, refl, sym, ◌∙◌, subst, arith, Some, append_assoc}
use Rattle.std.specs.Prelude.{nat_le, if◌then◌else◌}
use Rattle.std.proofs.lemmas.List.{append-nil}
use Rattle.std.proofs.Math.Seq.{take-length}
use Rattle.std.proofs.Math.ListN.{drop_of_length-le}
use Rattle.std.proofs.lemmas.Bool.Decides.{nat_tests}
use Rattle.tb_sectors.specs.Checksum.{bit_on, byte_on}
use Rattle.tb_sectors.specs.Sectors.{IsMixed, sector}
use Rattle.tb_sectors.specs.Stamped.{Stamped, blank, Taken, nothing_taken, with_sector, Batch, batch_bytes, grown, further, goes_on, further_sectors, batch_sectors, new_after, after_last, with_batch, after_batches, all_bytes, sector_at, is_intact, stamped, sectors_from, file_sectors}
use Rattle.tb_sectors.specs.StampedLaws.{IsAnyMix, CrashLeavesAllOrNone, CommittedIsRead, FileIsRead, HasSectors, FileIsAllOrNone}
use Rattle.tb_sectors.proofs.Mixes.{IsNext, IsAtRest, sector_bytes, at_rest_reads, batch_or_none, same_reads}

completes : (t : Taken) (s : Stamped) → s.ends ≡ length s.bytes → (with_sector t s).whole ≡ t.all ++ s.bytes
completes t s ends =
    ap (λ (n : ℕ). if nat_le n (length s.bytes) then t.all ++ take n s.bytes else t.whole) ends
    ∙ ap (λ (b : Bool). if b then t.all ++ take (length s.bytes) s.bytes else t.whole) (at_most (length s.bytes) (length s.bytes) (omega arith))
    ∙ ap (λ (l : List ℕ). t.all ++ l) (take-length s.bytes)
  where
    at_most : (a b : ℕ) → a ≤ b → nat_le a b ≡ true
    at_most a b le = grind (arith, nat_tests)

further_at_rest : (t : Taken) (n : ℕ) (pieces : List (List ℕ)) → t.closed ≡ false → t.number ≡ n → 0 < n → (goes_on pieces ≡ false → t.whole ≡ t.all) → IsAtRest t (further_sectors n pieces)
further_at_rest t n [] ready same pos whole = whole refl
further_at_rest t n (p ∷ []) ready same pos whole =
    (record { stamped = pos; number = omega (arith, same); ready = ready; stays = refl }, completes t (further n p false) refl)
further_at_rest t n (p ∷ q ∷ more) ready same pos whole =
    (record { stamped = pos; number = omega (arith, same); ready = ready; stays = refl }, further_at_rest (with_sector t (further n p true)) n (q ∷ more) refl refl pos (λ e. absurd (false_is_not_true e)))
  where
    false_is_not_true : true ≡ false → ⊥
    false_is_not_true e = cc

batch_at_rest : (t : Taken) (o : Stamped) (first : List ℕ) (more : List (List ℕ)) → t.closed ≡ false → o.number ≡ t.number + o.begun → IsAtRest t (batch_sectors o first more)
batch_at_rest t o first [] ready is = (record { stamped = omega arith; number = omega (arith, is); ready = ready; stays = refl }, completes t (grown o first false) refl)
batch_at_rest t o first (q ∷ more) ready is = (
  record { stamped = omega arith; number = omega (arith, is); ready = ready; stays = refl },
  further_at_rest (with_sector t (grown o first true)) (o.number + 1) (q ∷ more) refl refl (omega arith) (λ e. absurd (false_is_not_true e)),
)
  where
    false_is_not_true : true ≡ false → ⊥
    false_is_not_true e = cc

last_at_rest : (t : Taken) (s : Stamped) (shares : Bool) (first : List ℕ) (more : List (List ℕ)) → IsNext t s → IsAtRest t (after_last s (record { shares = shares; first = first; more = more }))
last_at_rest t s true first more next = batch_at_rest t s first more next.ready next.number
last_at_rest t s false first more next = (next, batch_at_rest (with_sector t s) (new_after s.number) first more next.stays (omega arith))

pub with_batch_at_rest : (t : Taken) (sectors : List Stamped) (batch : Batch) → IsAtRest t sectors → IsAtRest t (with_batch sectors batch)
with_batch_at_rest t [] batch rests = rests
with_batch_at_rest t (s ∷ []) batch (next, rests) = last_at_rest t s batch.shares batch.first batch.more next
with_batch_at_rest t (s ∷ r ∷ more) batch (next, rests) = (next, with_batch_at_rest (with_sector t s) (r ∷ more) batch rests)

pub batches_at_rest : (first : List ℕ) (batches : List Batch) → IsAtRest nothing_taken (after_batches first batches)
batches_at_rest first [] = (record { stamped = omega arith; number = refl; ready = refl; stays = refl }, completes nothing_taken (grown (new_after 0) first false) refl)
batches_at_rest first (newest ∷ earlier) = with_batch_at_rest nothing_taken (after_batches first earlier) newest (batches_at_rest first earlier)

-- its bytes

further_bytes : (n : ℕ) (pieces : List (List ℕ)) → sector_bytes (further_sectors n pieces) ≡ flat_map (λ (bytes : List ℕ). bytes) pieces
further_bytes n [] = refl
further_bytes n (p ∷ more) = ap (λ (l : List ℕ). p ++ l) (further_bytes n more)

last_bytes : (s : Stamped) (shares : Bool) (first : List ℕ) (more : List (List ℕ))
    → sector_bytes (after_last s (record { shares = shares; first = first; more = more })) ≡ (s.bytes ++ []) ++ (first ++ flat_map (λ (bytes : List ℕ). bytes) more)
last_bytes s true first more =
    ap (λ (l : List ℕ). (s.bytes ++ first) ++ l) (further_bytes (s.number + 1) more) ∙ append_assoc s.bytes first (flat_map (λ (bytes : List ℕ). bytes) more)
    ∙ ap (λ (l : List ℕ). l ++ (first ++ flat_map (λ (bytes : List ℕ). bytes) more)) (sym (append-nil s.bytes))
last_bytes s false first more =
    ap (λ (l : List ℕ). s.bytes ++ (first ++ l)) (further_bytes (s.number + 1) more)
    ∙ ap (λ (l : List ℕ). l ++ (first ++ flat_map (λ (bytes : List ℕ). bytes) more)) (sym (append-nil s.bytes))

-- a journal has a sector
pub record IsSome (sectors : List Stamped) : Type 0 where
  pub first : Stamped
  pub rest : List Stamped
  pub is : sectors ≡ first ∷ rest

with_batch_bytes : (s : Stamped) (rest : List Stamped) (batch : Batch) → sector_bytes (with_batch (s ∷ rest) batch) ≡ sector_bytes (s ∷ rest) ++ batch_bytes batch
with_batch_bytes s [] batch = last_bytes s batch.shares batch.first batch.more
with_batch_bytes s (r ∷ more) batch =
    ap (λ (l : List ℕ). s.bytes ++ l) (with_batch_bytes r more batch) ∙ sym (append_assoc s.bytes (sector_bytes (r ∷ more)) (batch_bytes batch))

last_is_some : (s : Stamped) (shares : Bool) (first : List ℕ) (more : List (List ℕ)) → IsSome (after_last s (record { shares = shares; first = first; more = more }))
last_is_some s true first more = record { first = _; rest = _; is = refl }
last_is_some s false first more = record { first = _; rest = _; is = refl }

with_is_some : (s : Stamped) (rest : List Stamped) (batch : Batch) → IsSome (with_batch (s ∷ rest) batch)
with_is_some s [] batch = last_is_some s batch.shares batch.first batch.more
with_is_some s (r ∷ more) batch = record { first = _; rest = _; is = refl }

pub batches_are_some : (first : List ℕ) (batches : List Batch) → IsSome (after_batches first batches)
batches_are_some first [] = record { first = _; rest = _; is = refl }
batches_are_some first (newest ∷ earlier) =
    let before = batches_are_some first earlier in
    subst (λ (l : List Stamped). IsSome (with_batch l newest)) (sym before.is) (with_is_some before.first before.rest newest)

pub batches_bytes : (first : List ℕ) (batches : List Batch) → sector_bytes (after_batches first batches) ≡ all_bytes first batches
batches_bytes first [] = append-nil first
batches_bytes first (newest ∷ earlier) =
    let before = batches_are_some first earlier in
    subst (λ (l : List Stamped). sector_bytes (with_batch l newest) ≡ sector_bytes l ++ batch_bytes newest) (sym before.is) (with_batch_bytes before.first before.rest newest)
    ∙ ap (λ (l : List ℕ). l ++ batch_bytes newest) (batches_bytes first earlier)

-- the laws

pub committed_is_read : CommittedIsRead
committed_is_read first batches =
    at_rest_reads nothing_taken (after_batches first batches) (batches_at_rest first batches) ∙ ap Some (batches_bytes first batches)

pub crash_leaves_all_or_none : CrashLeavesAllOrNone
crash_leaves_all_or_none first batches batch left mixed =
    let bytes = batches_bytes first batches in
    ⊎_elim (λ e. inl (e ∙ ap Some bytes)) (λ e. inr (e ∙ ap (λ (l : List ℕ). Some (l ++ batch_bytes batch)) bytes))
    (batch_or_none nothing_taken (after_batches first batches) batch left (batches_at_rest first batches) mixed)

-- files

pub stamped_zeros : stamped (replicate 512 0) ≡ blank
unfolding is_intact bit_on byte_on
stamped_zeros = refl

pub past_the_end : (k : ℕ) (file : List ℕ) → length file ≤ 512 * k → sector k file ≡ replicate 512 0
past_the_end k file le = ap (λ (l : List ℕ). take 512 (l ++ replicate 512 0)) (drop_of_length-le file le)

sector_from : (j count k : ℕ) (file : List ℕ) → length file ≤ 512 * (j + count) → sector_at (sectors_from j count file) k ≡ stamped (sector (j + k) file)
sector_from j zero k file le = sym (ap stamped (past_the_end (j + k) file (omega (arith, le))) ∙ stamped_zeros)
sector_from j (suc count) zero file le = ap (λ (n : ℕ). stamped (sector n file)) (omega arith)
sector_from j (suc count) (suc k) file le = sector_from (j + 1) count k file (omega (arith, le)) ∙ ap (λ (n : ℕ). stamped (sector n file)) (omega arith)

pub file_sector : (k : ℕ) (file : List ℕ) → sector_at (file_sectors file) k ≡ stamped (sector k file)
file_sector k file = sector_from 0 ((length file + 511) / 512) k file (omega arith) ∙ ap (λ (n : ℕ). stamped (sector n file)) (omega arith)

-- a crash mixes what the sectors of two files are
pub mixed_sectors : (old new left : List ℕ) (before after : List Stamped) → HasSectors old before → HasSectors new after → IsMixed old new left → IsAnyMix before after (file_sectors left)
mixed_sectors old new left before after has will mixed k =
    ⊎_elim (λ e. inl (file_sector k left ∙ ap stamped e ∙ has k)) (λ e. inr (file_sector k left ∙ ap stamped e ∙ will k)) (mixed.each k)

pub file_is_all_or_none : FileIsAllOrNone
file_is_all_or_none first batches batch old new left has will mixed =
    crash_leaves_all_or_none first batches batch (file_sectors left)
    (mixed_sectors old new left (after_batches first batches) (after_batches first (batch ∷ batches)) has will mixed)

pub file_is_read : FileIsRead
file_is_read first batches file has =
    same_reads nothing_taken (after_batches first batches) (file_sectors file) (batches_at_rest first batches) (λ k. file_sector k file ∙ has k) ∙ ap Some (batches_bytes first batches)

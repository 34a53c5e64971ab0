-- The last latch of a journal is closed.
use Rattle.std.proofs.Common.{◌≡◌, ◌⊎◌, inl, inr, ⊎_elim, ℕ, zero, suc, ◌+◌, ◌-◌, ◌*◌, ◌≤◌, ◌<◌, ap, Bool, true, false, List, [], ◌∷◌, ◌++◌, length, take, drop, sym, ◌∙◌, refl, subst, arith, Some, length-append, length-drop}
use Rattle.std.proofs.lemmas.List.{drop_at, length-take-le}
use Rattle.std.proofs.lemmas.Bool.{cases_lt}
use Rattle.std.specs.Prelude.{if◌then◌else◌}
use Rattle.tb_sectors.specs.Sectors.{sector, overwritten}
use Rattle.tb_sectors.specs.Ranges.{IsTorn}
use Rattle.tb_sectors.specs.Stamped.{Stamped, Taken, nothing_taken, with_sector, Batch, stream, sector_at, after_batches, all_bytes, closes, is_intact, decoded, rotten, blank, stamped, file_sectors}
use Rattle.tb_sectors.specs.StampedLaws.{HasSectors}
use Rattle.tb_sectors.specs.Latches.{shut, closed_last, IsClosedAfter, end_after, latch_after, LatchIsClosed}
use Rattle.tb_sectors.specs.private.Latched.{latched}
use Rattle.tb_sectors.specs.private.Outcomes.{drop_parts, torn_whole}
use Rattle.tb_sectors.proofs.Mixes.{IsAtRest}
use Rattle.tb_sectors.proofs.Journals.{batches_at_rest, file_is_read}
use Rattle.tb_sectors.proofs.Latches.{SameButLatch, latch_of, intact_same, decoded_same, whole_sector, take_in, closed_length, closed_is_read, some_sectors, others, latch_alone, either, place}

-- the sectors of a journal

at_rest_at : (t : Taken) (l : List Stamped) (k : ℕ) → IsAtRest t l → k < length l → (0 < (sector_at l k).number) × ((sector_at l k).closed ≡ false)
at_rest_at t [] k rests less = absurd (omega (arith, less))
at_rest_at t (s ∷ rest) zero (next, rests) less = (next.stamped, next.stays)
at_rest_at t (s ∷ rest) (suc k) (next, rests) less = at_rest_at (with_sector t s) rest k rests (omega (arith, less))

shut_at : (l : List Stamped) (m : ℕ) → length l ≡ suc m → sector_at (closed_last l) m ≡ shut (sector_at l m)
shut_at [] m e = absurd (omega (arith, e))
shut_at (s ∷ []) zero e = refl
shut_at (s ∷ []) (suc m) e = absurd (omega (arith, e))
shut_at (s ∷ r ∷ more) zero e = absurd (omega (arith, e))
shut_at (s ∷ r ∷ more) (suc m) e = shut_at (r ∷ more) m (omega (arith, e))

same_before : (l : List Stamped) (m k : ℕ) → length l ≡ suc m → k < m → sector_at (closed_last l) k ≡ sector_at l k
same_before [] m k e less = absurd (omega (arith, e))
same_before (s ∷ []) m k e less = absurd (omega (arith, e, less))
same_before (s ∷ r ∷ more) zero k e less = absurd (omega (arith, less))
same_before (s ∷ r ∷ more) (suc m) zero e less = refl
same_before (s ∷ r ∷ more) (suc m) (suc k) e less = same_before (r ∷ more) m k (omega (arith, e)) (omega (arith, less))

-- a sector with a stamp, and its latch changed
stamped_open : (b c : List ℕ) → SameButLatch b c → (s : Stamped) → stamped c ≡ s → 0 < s.number → stamped b ≡ latched (latch_of b) s
stamped_open b c same s is pos = by_test (is_intact c) refl
  where
    by_test : (i : Bool) → is_intact c ≡ i → stamped b ≡ latched (latch_of b) s
    by_test true e =
        ap (λ (x : Bool). if x then decoded b else rotten) (intact_same b c same ∙ e) ∙ decoded_same b c same
        ∙ ap (latched (latch_of b)) (sym (ap (λ (x : Bool). if x then decoded c else rotten) e) ∙ is)
    by_test false e =
        let none : 0 ≡ s.number = ap (λ (x : Stamped). x.number) (sym (ap (λ (x : Bool). if x then decoded c else rotten) e) ∙ is) in
        absurd (omega (arith, none, pos))

module _ (first : List ℕ) (batches : List Batch) (file : List ℕ) (has : HasSectors file (after_batches first batches)) (m : ℕ) (count : length (after_batches first batches) ≡ suc m) (within : 512 * m + 512 ≤ length file) (left : List ℕ) (torn : IsTorn (512 * m + 14) 2 file left) where
  abbrev last : Stamped
  last = sector_at (after_batches first batches) m

  last_is : (0 < last.number) × (last.closed ≡ false)
  last_is = at_rest_at nothing_taken (after_batches first batches) m (batches_at_rest first batches) (omega (arith, count))

  found : stamped (sector m left) ≡ latched (latch_of (sector m left)) last
  found = stamped_open (sector m left) (sector m file) (latch_alone m file left within torn) last (has m) last_is.0

  elsewhere : (k : ℕ) → (k ≡ m → ⊥) → stamped (sector k left) ≡ sector_at (after_batches first batches) k
  elsewhere k other = ap stamped (others m file left within torn k other) ∙ has k

  pub closed_now : latch_of (sector m left) ≡ true → IsClosedAfter first batches left
  closed_now is k less = ⊎_elim
      (λ e. subst (λ (x : ℕ). stamped (sector x left) ≡ sector_at (closed_last (after_batches first batches)) x) (sym e)
      (found ∙ ap (λ (c : Bool). latched c last) is ∙ sym (shut_at (after_batches first batches) m count)))
      (λ other. elsewhere k other ∙ sym (same_before (after_batches first batches) m k count (earlier k less other)))
      (place k m)
    where
      earlier : (k : ℕ) → k < length (closed_last (after_batches first batches)) → (k ≡ m → ⊥) → k < m
      earlier k less other = ⊎_elim (λ before. before) (λ le. absurd (other (omega (arith, le, less, count, closed_length (after_batches first batches))))) (cases_lt k m)

  open_still : latch_of (sector m left) ≡ false → HasSectors left (after_batches first batches)
  open_still is k = ⊎_elim
      (λ e. subst (λ (x : ℕ). stamped (sector x left) ≡ sector_at (after_batches first batches) x) (sym e)
      (found ∙ ap (λ (c : Bool). latched c last) is ∙ ap (λ (c : Bool). latched c last) (sym last_is.1)))
      (elsewhere k)
      (place k m)

  pub reads_on : stream (file_sectors left) ≡ Some (all_bytes first batches)
  reads_on = ⊎_elim (λ is. closed_is_read first batches left (closed_now is)) (λ is. file_is_read first batches left (open_still is)) (either (latch_of (sector m left)))

-- the two bytes of a closed latch
shut_latch : (m : ℕ) (f : List ℕ) → 512 * m + 512 ≤ length f → latch_of (sector m (overwritten f (512 * m + 14) (90 ∷ 195 ∷ []))) ≡ true
shut_latch m f long =
    let g = overwritten f (512 * m + 14) (90 ∷ 195 ∷ []) in
    let begins : length (take (512 * m + 14) f) ≡ 512 * m + 14 = length-take-le (512 * m + 14) f (omega (arith, long)) in
    let whole : 512 * m + 512 ≤ length g
    = omega (arith, begins, long, length-append (take (512 * m + 14) f) (90 ∷ 195 ∷ drop (512 * m + 14 + 2) f), length-drop (512 * m + 14 + 2) f) in
    ap (λ (l : List ℕ). closes (take 2 (drop 14 l))) (whole_sector m g whole)
    ∙ ap closes (sym (take_in 14 2 512 (drop (512 * m) g) (omega arith))
    ∙ ap (take 2) (sym (drop_parts (512 * m) 14 g) ∙ drop_at (take (512 * m + 14) f) (90 ∷ 195 ∷ drop (512 * m + 14 + 2) f) (512 * m + 14) begins))

pub latch_is_closed : LatchIsClosed
latch_is_closed first batches file has long = by_count (length (after_batches first batches) - 1) (omega (arith, some_sectors first batches))
  where
    by_count : (m : ℕ) → length (after_batches first batches) ≡ suc m
        → IsClosedAfter first batches (overwritten file (latch_after first batches) (90 ∷ 195 ∷ []))
        × ((left : List ℕ) → IsTorn (latch_after first batches) 2 file left → stream (file_sectors left) ≡ Some (all_bytes first batches))
    by_count m count =
        let place_is : latch_after first batches ≡ 512 * m + 14 = omega (arith, count) in
        let within : 512 * m + 512 ≤ length file = omega (arith, count, long) in (
          subst (λ (n : ℕ). IsClosedAfter first batches (overwritten file n (90 ∷ 195 ∷ []))) (sym place_is)
              (closed_now first batches file has m count within (overwritten file (512 * m + 14) (90 ∷ 195 ∷ []))
              (torn_whole (512 * m + 14) (90 ∷ 195 ∷ []) file (omega (arith, within))) (shut_latch m file within)),
          λ left torn. reads_on first batches file has m count within left (subst (λ (n : ℕ). IsTorn n 2 file left) place_is torn),
        )

-- A batch that is written after a closed latch, and the sector of a new journal.
use Rattle.std.proofs.Common.{◌≡◌, ⊎_elim, ℕ, suc, ◌+◌, ◌-◌, ◌*◌, ◌^◌, ◌≤◌, ◌<◌, ap, Bool, false, List, [], ◌∷◌, ◌++◌, length, take, drop, refl, sym, ◌∙◌, subst, arith, length-append}
use Rattle.std.proofs.lemmas.List.{append-nil, take_all, length-take-le}
use Rattle.std.proofs.lemmas.Bool.{cases_lt}
use Rattle.std.proofs.Math.ListN.{drop_of_length-le}
use Rattle.tb_sectors.specs.Sectors.{sector, overwritten}
use Rattle.tb_sectors.specs.Stamped.{Stamped, Taken, nothing_taken, with_sector, Batch, grown, further_sectors, new_after, goes_on, with_batch, sector_at, after_batches, created, stamped}
use Rattle.tb_sectors.specs.StampedLaws.{HasSectors, CreatedIsWritten}
use Rattle.tb_sectors.specs.Encoding.{latch_bytes, raws, FitsSector, pieces_of, cut_batch, batch_of}
use Rattle.tb_sectors.specs.Latches.{shut, closed_last, BeginsWith, IsClosedAfter, end_after, latch_after, closed_written, ClosedBatchIsWritten, ClosedCreatedIsWritten}
use Rattle.tb_sectors.specs.private.Latched.{latched}
use Rattle.tb_sectors.proofs.Mixes.{IsAtRest}
use Rattle.tb_sectors.proofs.Journals.{batches_at_rest, past_the_end, stamped_zeros}
use Rattle.tb_sectors.proofs.Latches.{closed_length, stamped_same, latch_alone, others, opened_torn, opened_latch}
use Rattle.tb_sectors.proofs.Written.{inside, before, at_front, at_behind, AllFit, raws_length, raws_at, written_over, cut_fits, with_last}

-- the latch of the last sector

closed_behind : (front : List Stamped) (s : Stamped) (more : List Stamped) → closed_last (front ++ s ∷ more) ≡ front ++ closed_last (s ∷ more)
closed_behind [] s more = refl
closed_behind (x ∷ []) s more = refl
closed_behind (x ∷ y ∷ front) s more = ap (λ (l : List Stamped). x ∷ l) (closed_behind (y ∷ front) s more)

open_at : (t : Taken) (front : List Stamped) (last : Stamped) → IsAtRest t (front ++ last ∷ []) → last.closed ≡ false
open_at t [] last (next, rests) = next.stays
open_at t (b ∷ front) last (next, rests) = open_at (with_sector t b) front last rests

closed_fits : (l : List Stamped) → AllFit l → AllFit (closed_last l)
closed_fits [] fits = tt
closed_fits (s ∷ []) (fits, more) = (record { number = fits.number; begun = fits.begun; ends = fits.ends; bytes = fits.bytes }, tt)
closed_fits (s ∷ r ∷ more) (fits, rest) = (fits, closed_fits (r ∷ more) rest)

-- sectors after a closed latch that is then opened
module _ (file : List ℕ) (front : List Stamped) (last : Stamped) (news : List Stamped) (fits : AllFit news) (within : 512 * (length front + 1) ≤ length file) (closed : BeginsWith file (front ++ shut last ∷ [])) (opens : last.closed ≡ false) where
  abbrev m : ℕ
  m = length front

  abbrev written : List ℕ
  written = overwritten file (512 * (length front + 1)) (raws news)

  abbrev final : List ℕ
  final = overwritten (overwritten file (512 * (length front + 1)) (raws news)) (512 * length front + 14) (0 ∷ 0 ∷ [])

  news_long : length (raws news) ≡ 512 * length news
  news_long = raws_length news fits

  long : 512 * m + 512 ≤ length written
  long = omega (
    arith,
    within,
    length-take-le (512 * (length front + 1)) file within,
    length-append (take (512 * (length front + 1)) file) (raws news ++ drop (512 * (length front + 1) + length (raws news)) file),
  )

  elsewhere : (k : ℕ) → (k ≡ m → ⊥) → sector k final ≡ sector k written
  elsewhere k other = others m written final long (opened_torn m written long) k other

  as_it_was : (k : ℕ) → k < m + 1 → sector k written ≡ sector k file
  as_it_was k less = before file (m + 1) (raws news) (length news) within news_long k less

  sectors_long : length (front ++ shut last ∷ []) ≡ m + 1
  sectors_long = length-append front (shut last ∷ [])

  there : sector_at (front ++ shut last ∷ []) (m + 0) ≡ shut last
  there = at_behind front (shut last ∷ []) 0

  was_shut : stamped (sector m written) ≡ shut last
  was_shut =
      ap stamped (as_it_was m (omega arith)) ∙ closed m (omega (arith, sectors_long))
      ∙ ap (sector_at (front ++ shut last ∷ [])) (let e : m ≡ m + 0 = omega arith in e) ∙ there

  at_latch : stamped (sector m final) ≡ last
  at_latch =
      stamped_same (sector m final) (sector m written) (latch_alone m written final long (opened_torn m written long)) last was_shut
      ∙ ap (λ (c : Bool). latched c last) (opened_latch m written long) ∙ ap (λ (c : Bool). latched c last) (sym opens)

  in_front : (k : ℕ) → k < m → stamped (sector k final) ≡ sector_at (front ++ last ∷ news) k
  in_front k less =
      ap stamped (elsewhere k (λ e. omega (arith, less, e)) ∙ as_it_was k (omega (arith, less))) ∙ closed k (omega (arith, less, sectors_long))
      ∙ at_front front (shut last ∷ []) k less ∙ sym (at_front front (last ∷ news) k less)

  new_one : (i : ℕ) → i < length news → stamped (sector (m + 1 + i) final) ≡ sector_at (front ++ last ∷ news) (m + 1 + i)
  new_one i less =
      ap stamped (elsewhere (m + 1 + i) (λ e. omega (arith, e)) ∙ inside file (m + 1) (raws news) (length news) within news_long i) ∙ raws_at news _ i less fits
      ∙ sym (ap (sector_at (front ++ last ∷ news)) (let e : m + 1 + i ≡ m + (suc i) = omega arith in e) ∙ at_behind front (last ∷ news) (suc i))

  pub opened_begins : BeginsWith final (front ++ last ∷ news)
  opened_begins k less = ⊎_elim (in_front k) (λ le. ⊎_elim (at_it le) (after_it le) (cases_lt m k)) (cases_lt k m)
    where
      at_place : (j : ℕ) → j ≡ k → stamped (sector j final) ≡ sector_at (front ++ last ∷ news) j → stamped (sector k final) ≡ sector_at (front ++ last ∷ news) k
      at_place j is holds = subst (λ (x : ℕ). stamped (sector x final) ≡ sector_at (front ++ last ∷ news) x) is holds

      at_it : m ≤ k → m < k → stamped (sector k final) ≡ sector_at (front ++ last ∷ news) k
      at_it le more = at_place (m + 1 + (k - m - 1)) (omega (arith, more)) (new_one (k - m - 1) (omega (arith, more, less, length-append front (last ∷ news))))

      after_it : m ≤ k → k ≤ m → stamped (sector k final) ≡ sector_at (front ++ last ∷ news) k
      after_it le ge = at_place m (omega (arith, le, ge)) (at_latch ∙ sym (ap (sector_at (front ++ last ∷ news)) (let e : m ≡ m + 0 = omega arith in e) ∙ at_behind front (last ∷ news) 0))

abbrev next_batch : List ℕ → Batch
next_batch bytes = batch_of false [] bytes

abbrev next_sectors : ℕ → List ℕ → List Stamped
next_sectors number bytes = cut_batch (new_after number) bytes

journal_is : (first : List ℕ) (batches : List Batch) (front : List Stamped) (last : Stamped) (bytes : List ℕ) → after_batches first batches ≡ front ++ last ∷ []
    → closed_last (after_batches first (next_batch bytes ∷ batches)) ≡ front ++ last ∷ closed_last (next_sectors last.number bytes)
journal_is first batches front last bytes is =
    ap (λ (l : List Stamped). closed_last (with_batch l (next_batch bytes))) is ∙ ap closed_last (with_last front last (next_batch bytes))
    ∙ closed_behind front last (next_sectors last.number bytes)

pub closed_batch_is_written : ClosedBatchIsWritten
closed_batch_is_written first batches front last file bytes is closed long number =
    subst (λ (n : ℕ). IsClosedAfter first (next_batch bytes ∷ batches) (overwritten (overwritten file n (raws (closed_last (next_sectors last.number bytes)))) (n - 498) (0 ∷ 0 ∷ []))) (sym ends)
    (subst (λ (n : ℕ). IsClosedAfter first (next_batch bytes ∷ batches) (overwritten (overwritten file (512 * (length front + 1)) (raws (closed_last (next_sectors last.number bytes)))) n (0 ∷ 0 ∷ []))) (sym latch)
    (subst (BeginsWith (overwritten (overwritten file (512 * (length front + 1)) (raws (closed_last (next_sectors last.number bytes)))) (512 * length front + 14) (0 ∷ 0 ∷ [])))
    (sym (journal_is first batches front last bytes is))
    (opened_begins file front last (closed_last (next_sectors last.number bytes))
    (closed_fits (next_sectors last.number bytes) (cut_fits (new_after last.number) bytes (omega arith) number (omega arith)))
    (omega (arith, long, ends)) shut_before (open_at nothing_taken front last (subst (IsAtRest nothing_taken) is (batches_at_rest first batches))))))
  where
    ends : end_after first batches ≡ 512 * (length front + 1)
    ends = omega (arith, ap (λ (l : List Stamped). length l) is, length-append front (last ∷ []))

    latch : 512 * (length front + 1) - 498 ≡ 512 * length front + 14
    latch = omega arith

    shut_before : BeginsWith file (front ++ shut last ∷ [])
    shut_before = subst (BeginsWith file) (ap closed_last is ∙ closed_behind front last []) closed

-- a new journal

cut_short : (o : Stamped) (bytes : List ℕ) → length o.bytes + length bytes ≤ 492 → cut_batch o bytes ≡ grown o bytes false ∷ []
cut_short o bytes short =
    let n = 492 - length o.bytes in
    ap (λ (l : List ℕ). grown o (take n bytes) (goes_on (pieces_of l)) ∷ further_sectors (o.number + 1) (pieces_of l)) (drop_of_length-le bytes {i = n} (omega (arith, short)))
    ∙ ap (λ (l : List ℕ). grown o l false ∷ []) (take_all n bytes (omega (arith, short)))

alone : (news : List Stamped) → AllFit news → HasSectors (raws news) news
alone news fits k = ap (λ (l : List ℕ). stamped (sector k l)) (sym whole) ∙ written_over [] [] [] news empty (omega arith) (omega arith) fits k
  where
    whole : overwritten [] 0 (raws news) ≡ raws news
    whole = ap (λ (l : List ℕ). raws news ++ l) (drop_of_length-le [] {i = 0 + length (raws news)} (omega arith)) ∙ append-nil (raws news)

    empty : (j : ℕ) → stamped (sector j []) ≡ sector_at [] j
    empty j = ap stamped (past_the_end j [] (omega arith)) ∙ stamped_zeros

pub created_is_written : CreatedIsWritten
created_is_written first short =
    subst (λ (l : List Stamped). HasSectors (raws l) (created first)) (sym (cut_short (new_after 0) first (omega (arith, short))))
    (alone (created first) (fits, tt))
  where
    fits : FitsSector (grown (new_after 0) first false)
    fits = record { number = omega arith; begun = omega arith; ends = omega (arith, short); bytes = omega (arith, short) }

pub closed_created_is_written : ClosedCreatedIsWritten
closed_created_is_written first short k less =
    subst (λ (l : List Stamped). stamped (sector k (raws (closed_last l))) ≡ sector_at (closed_last (created first)) k) (sym (cut_short (new_after 0) first (omega (arith, short))))
    (alone (closed_last (created first)) (fits, tt) k)
  where
    fits : FitsSector (shut (grown (new_after 0) first false))
    fits = record { number = omega arith; begun = omega arith; ends = omega (arith, short); bytes = omega (arith, short) }

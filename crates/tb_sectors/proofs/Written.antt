-- What a commit writes, sector by sector.
use Rattle.std.proofs.Common.{◌≡◌, ⊎_elim, ℕ, zero, suc, ◌+◌, ◌-◌, ◌*◌, ◌^◌, ◌≤◌, ◌<◌, ap, Bool, true, false, List, [], ◌∷◌, ◌++◌, length, take, drop, replicate, refl, sym, ◌∙◌, subst, arith, append_assoc, length-append, length-drop, length-take}
use Rattle.std.specs.Prelude.{if◌then◌else◌}
use Rattle.std.proofs.lemmas.List.{length-replicate, take_at, drop_at, take-append-le, drop-take, length-take-le, take-append-drop}
use Rattle.std.proofs.lemmas.Bool.{cases_lt}
use Rattle.tb_sectors.specs.Sectors.{overwritten, sector}
use Rattle.tb_sectors.specs.Stamped.{Stamped, blank, Batch, grown, further, goes_on, further_sectors, new_after, after_last, with_batch, sector_at, stamped}
use Rattle.tb_sectors.specs.StampedLaws.{HasSectors, BatchIsWritten, BatchHasItsBytes, TornIsCleared}
use Rattle.tb_sectors.specs.Encoding.{raw, raws, FitsSector, pieces, pieces_of, cut_batch, batch_of}
use Rattle.tb_sectors.proofs.Losses.{read_back, raw_length}
use Rattle.tb_sectors.proofs.Readers.{shifted}
use Rattle.tb_sectors.proofs.Pieces.{pieces_join}

-- places in a list of sectors

pub at_front : (front more : List Stamped) (k : ℕ) → k < length front → sector_at (front ++ more) k ≡ sector_at front k
at_front [] more k less = absurd (omega arith)
at_front (s ∷ front) more zero less = refl
at_front (s ∷ front) more (suc k) less = at_front front more k (omega arith)

pub at_behind : (front more : List Stamped) (i : ℕ) → sector_at (front ++ more) (length front + i) ≡ sector_at more i
at_behind [] more i = ap (sector_at more) (omega arith)
at_behind (s ∷ front) more i = ap (sector_at (s ∷ (front ++ more))) (let e : length (s ∷ front) + i ≡ suc (length front + i) = omega arith in e) ∙ at_behind front more i

at_end : (l : List Stamped) (i : ℕ) → length l ≤ i → sector_at l i ≡ blank
at_end [] i le = refl
at_end (s ∷ l) zero le = absurd (omega arith)
at_end (s ∷ l) (suc i) le = at_end l i (omega arith)

-- sectors that fit

abbrev pub AllFit : List Stamped → Type 0
AllFit [] = Unit {0}
AllFit (s ∷ more) = FitsSector s × AllFit more

pub raws_length : (news : List Stamped) → AllFit news → length (raws news) ≡ 512 * length news
raws_length [] fits = refl
raws_length (s ∷ news) (fits, more) = omega (arith, length-append (raw s) (raws news), raw_length s fits.bytes, raws_length news more)

-- the sectors of what is written
pub raws_at : (news : List Stamped) (rest : List ℕ) (i : ℕ) → i < length news → AllFit news → stamped (sector i (raws news ++ rest)) ≡ sector_at news i
raws_at [] rest i less fits = absurd (omega arith)
raws_at (s ∷ news) rest zero less (fits, more) =
    ap stamped (ap (λ (l : List ℕ). take 512 l) (append_assoc (raw s ++ raws news) rest (replicate 512 0) ∙ append_assoc (raw s) (raws news) (rest ++ replicate 512 0))
    ∙ take_at (raw s) (raws news ++ (rest ++ replicate 512 0)) 512 (raw_length s fits.bytes)) ∙ read_back s fits
raws_at (s ∷ news) rest (suc i) less (fits, more) =
    ap stamped (ap (λ (n : ℕ). sector n ((raw s ++ raws news) ++ rest)) (let e : suc i ≡ 1 + i = omega arith in e) ∙ shifted 1 i ((raw s ++ raws news) ++ rest)
    ∙ ap (sector i) (ap (drop 512) (append_assoc (raw s) (raws news) rest) ∙ drop_at (raw s) (raws news ++ rest) 512 (raw_length s fits.bytes)))
    ∙ raws_at news rest i (omega arith) more

-- a file that is written over from a sector on

module _ (file : List ℕ) (m : ℕ) (new : List ℕ) (n : ℕ) (within : 512 * m ≤ length file) (long : length new ≡ 512 * n) where
  abbrev at : ℕ
  at = 512 * m

  abbrev rest : List ℕ
  rest = drop (at + length new) file

  begins : length (take at file) ≡ at
  begins = length-take-le at file within

  behind : drop at (overwritten file at new) ≡ new ++ rest
  behind = drop_at (take at file) (new ++ rest) at begins

  pub inside : (i : ℕ) → sector (m + i) (overwritten file at new) ≡ sector i (new ++ rest)
  inside i = shifted m i (overwritten file at new) ∙ ap (sector i) behind

  pub after : (i : ℕ) → sector (m + (n + i)) (overwritten file at new) ≡ sector (m + (n + i)) file
  after i =
      inside (n + i) ∙ shifted n i (new ++ rest) ∙ ap (sector i) (drop_at new rest (512 * n) long ∙ ap (λ (k : ℕ). drop k file) (omega (arith, long)))
      ∙ sym (ap (λ (k : ℕ). sector k file) (omega arith) ∙ shifted (m + n) i file)

  -- a whole sector
  whole : (k : ℕ) (f : List ℕ) → 512 * k + 512 ≤ length f → sector k f ≡ drop (512 * k) (take (512 * k + 512) f)
  whole k f le = take-append-le 512 (drop (512 * k) f) (replicate 512 0) (omega (arith, length-drop (512 * k) f)) ∙ sym (drop-take (512 * k) 512 f)

  front_same : (b : ℕ) → b ≤ at → take b (overwritten file at new) ≡ take b file
  front_same b le =
      take-append-le b (take at file) (new ++ rest) (omega (arith, le, begins))
      ∙ sym (ap (take b) (sym (take-append-drop at file)) ∙ take-append-le b (take at file) (drop at file) (omega (arith, le, begins)))

  pub before : (k : ℕ) → k < m → sector k (overwritten file at new) ≡ sector k file
  before k less =
      whole k (overwritten file at new) (omega (arith, within, less, begins, length-append (take at file) (new ++ rest)))
      ∙ ap (drop (512 * k)) (front_same (512 * k + 512) (omega (arith, less))) ∙ sym (whole k file (omega (arith, within, less)))

-- the file has the new sectors in the place of the old ones
pub written_over : (file : List ℕ) (front olds news : List Stamped) → HasSectors file (front ++ olds) → length olds ≤ length news → 512 * length front ≤ length file → AllFit news
    → HasSectors (overwritten file (512 * length front) (raws news)) (front ++ news)
written_over file front olds news has fewer within fits k = ⊎_elim in_front behind_front (cases_lt k (length front))
  where
    long : length (raws news) ≡ 512 * (length news)
    long = raws_length news fits

    in_front : k < (length front) → stamped (sector k (overwritten file (512 * (length front)) (raws news))) ≡ sector_at (front ++ news) k
    in_front less =
        ap stamped (before file (length front) (raws news) (length news) within long k less) ∙ has k ∙ at_front front olds k less ∙ sym (at_front front news k less)

    new_one : (i : ℕ) → i < (length news) → stamped (sector ((length front) + i) (overwritten file (512 * (length front)) (raws news))) ≡ sector_at (front ++ news) ((length front) + i)
    new_one i less = ap stamped (inside file (length front) (raws news) (length news) within long i) ∙ raws_at news _ i less fits ∙ sym (at_behind front news i)

    after_all : (i : ℕ) → stamped (sector ((length front) + ((length news) + i)) (overwritten file (512 * (length front)) (raws news))) ≡ sector_at (front ++ news) ((length front) + ((length news) + i))
    after_all i =
        ap stamped (after file (length front) (raws news) (length news) within long i) ∙ has ((length front) + ((length news) + i)) ∙ at_behind front olds ((length news) + i) ∙ at_end olds ((length news) + i) (omega (arith, fewer))
        ∙ sym (at_behind front news ((length news) + i) ∙ at_end news ((length news) + i) (omega arith))

    at_place : (j : ℕ) → j ≡ k → stamped (sector j (overwritten file (512 * (length front)) (raws news))) ≡ sector_at (front ++ news) j
        → stamped (sector k (overwritten file (512 * (length front)) (raws news))) ≡ sector_at (front ++ news) k
    at_place j is holds = subst (λ (x : ℕ). stamped (sector x (overwritten file (512 * (length front)) (raws news))) ≡ sector_at (front ++ news) x) is holds

    behind_front : (length front) ≤ k → stamped (sector k (overwritten file (512 * (length front)) (raws news))) ≡ sector_at (front ++ news) k
    behind_front le = ⊎_elim
        (λ less. at_place ((length front) + (k - (length front))) (omega (arith, le)) (new_one (k - (length front)) less))
        (λ far. at_place ((length front) + ((length news) + (k - (length front) - (length news)))) (omega (arith, le, far)) (after_all (k - (length front) - (length news))))
        (cases_lt (k - (length front)) (length news))

-- what is written fits

pieces_fit : (count number : ℕ) (bytes : List ℕ) → number < 2 ^ 64 → AllFit (further_sectors number (pieces count bytes))
pieces_fit zero number bytes less = tt
pieces_fit (suc count) number [] less = tt
pieces_fit (suc count) number (b ∷ bytes) less =
    (fits (goes_on (pieces count (drop 492 (b ∷ bytes)))), pieces_fit count number (drop 492 (b ∷ bytes)) less)
  where
    short : length (take 492 (b ∷ bytes)) ≤ 492
    short = omega (arith, length-take 492 (b ∷ bytes))

    ends_fit : (more : Bool) → (if more then length (take 492 (b ∷ bytes)) + 1 else length (take 492 (b ∷ bytes))) < 2 ^ 16
    ends_fit true = omega (arith, short)
    ends_fit false = omega (arith, short)

    fits : (more : Bool) → FitsSector (further number (take 492 (b ∷ bytes)) more)
    fits more = record { number = less; begun = omega arith; ends = ends_fit more; bytes = short }

pub cut_fits : (o : Stamped) (bytes : List ℕ) → length o.bytes ≤ 492 → o.number + 1 < 2 ^ 64 → o.begun + 1 < 2 ^ 16 → AllFit (cut_batch o bytes)
cut_fits o bytes short number begun =
    (fits (goes_on (pieces_of (drop (492 - length o.bytes) bytes))), pieces_fit (length (drop (492 - length o.bytes) bytes)) (o.number + 1) (drop (492 - length o.bytes) bytes) number)
  where
    both_short : length (o.bytes ++ (take (492 - length o.bytes) bytes)) ≤ 492
    both_short = omega (arith, short, length-append o.bytes (take (492 - length o.bytes) bytes), length-take (492 - length o.bytes) bytes)

    ends_fit : (more : Bool) → (if more then length o.bytes else length (o.bytes ++ (take (492 - length o.bytes) bytes))) < 2 ^ 16
    ends_fit true = omega (arith, short)
    ends_fit false = omega (arith, both_short)

    fits : (more : Bool) → FitsSector (grown o (take (492 - length o.bytes) bytes) more)
    fits more = record { number = number; begun = begun; ends = ends_fit more; bytes = both_short }

-- the sectors of a journal with one more batch
pub with_last : (before : List Stamped) (last : Stamped) (batch : Batch) → with_batch (before ++ last ∷ []) batch ≡ before ++ after_last last batch
with_last [] last batch = refl
with_last (s ∷ []) last batch = refl
with_last (s ∷ r ∷ before) last batch = ap (λ (l : List Stamped). s ∷ l) (with_last (r ∷ before) last batch)

pub batch_is_written : BatchIsWritten
batch_is_written file before last true bytes has within fits number begun =
    let news = cut_batch last bytes in
    subst (HasSectors (overwritten file (512 * length before) (raws news))) (sym (with_last before last (batch_of true last.bytes bytes)))
    (written_over file before (last ∷ []) news has (omega arith) within (cut_fits last bytes fits.bytes number begun))
batch_is_written file before last false bytes has within fits number begun =
    let o = new_after last.number in
    let news = cut_batch o bytes in
    let front = before ++ last ∷ [] in
    let long : length before + 1 ≡ length front = omega (arith, length-append before (last ∷ [])) in
    subst (HasSectors (overwritten file (512 * (length before + 1)) (raws news)))
    (append_assoc before (last ∷ []) news ∙ sym (with_last before last (batch_of false [] bytes)))
    (subst (λ (n : ℕ). HasSectors (overwritten file (512 * n) (raws news)) (front ++ news)) (sym long)
    (written_over file front [] news (λ k. has k ∙ same front k) (omega arith) (omega (arith, within, long)) (cut_fits o bytes (omega arith) number (omega arith))))
  where
    same : (l : List Stamped) (k : ℕ) → sector_at l k ≡ sector_at (l ++ []) k
    same [] k = refl
    same (s ∷ l) zero = refl
    same (s ∷ l) (suc k) = same l k

pub batch_has_its_bytes : BatchHasItsBytes
batch_has_its_bytes shares kept bytes =
    let n = 492 - length kept in
    ap (λ (l : List ℕ). take n bytes ++ l) (pieces_join (drop n bytes)) ∙ take-append-drop n bytes

-- clearing

blank_fits : FitsSector blank
blank_fits = record { number = omega arith; begun = omega arith; ends = omega arith; bytes = omega arith }

blanks_fit : (n : ℕ) → AllFit (replicate n blank)
blanks_fit zero = tt
blanks_fit (suc n) = (blank_fits, blanks_fit n)

blank_at : (n i : ℕ) → sector_at (replicate n blank) i ≡ blank
blank_at zero i = refl
blank_at (suc n) zero = refl
blank_at (suc n) (suc i) = blank_at n i

last_and_blanks : (last : Stamped) (n i : ℕ) → sector_at (last ∷ replicate n blank) i ≡ sector_at (last ∷ []) i
last_and_blanks last n zero = refl
last_and_blanks last n (suc i) = blank_at n i

pub torn_is_cleared : TornIsCleared
torn_is_cleared file front last torn has others within fits k = ⊎_elim in_front behind_front (cases_lt k (length front))
  where
    news_long : length (raws (last ∷ replicate torn blank)) ≡ 512 * (torn + 1)
    news_long = raws_length (last ∷ replicate torn blank) (fits, blanks_fit torn) ∙ ap (λ (n : ℕ). 512 * n) (let e : length (last ∷ replicate torn blank) ≡ torn + 1 = omega (arith, length-replicate {A = Stamped} torn blank) in e)

    in_front : k < length front → stamped (sector k (overwritten file (512 * length front) (raws (last ∷ replicate torn blank)))) ≡ sector_at (front ++ last ∷ []) k
    in_front less = ap stamped (before file (length front) (raws (last ∷ replicate torn blank)) (torn + 1) within news_long k less) ∙ has k less ∙ sym (at_front front (last ∷ []) k less)

    new_one : (i : ℕ) → i < torn + 1 → stamped (sector (length front + i) (overwritten file (512 * length front) (raws (last ∷ replicate torn blank)))) ≡ sector_at (front ++ last ∷ []) (length front + i)
    new_one i less =
        ap stamped (inside file (length front) (raws (last ∷ replicate torn blank)) (torn + 1) within news_long i)
        ∙ raws_at (last ∷ replicate torn blank) _ i (omega (arith, less, length-replicate {A = Stamped} torn blank)) (fits, blanks_fit torn)
        ∙ last_and_blanks last torn i ∙ sym (at_behind front (last ∷ []) i)

    after_all : (i : ℕ) → stamped (sector (length front + (torn + 1 + i)) (overwritten file (512 * length front) (raws (last ∷ replicate torn blank)))) ≡ sector_at (front ++ last ∷ []) (length front + (torn + 1 + i))
    after_all i =
        ap stamped (after file (length front) (raws (last ∷ replicate torn blank)) (torn + 1) within news_long i) ∙ others (length front + (torn + 1 + i)) (omega arith)
        ∙ sym (at_behind front (last ∷ []) (torn + 1 + i) ∙ at_end (last ∷ []) (torn + 1 + i) (omega arith))

    at_place : (j : ℕ) → j ≡ k → stamped (sector j (overwritten file (512 * length front) (raws (last ∷ replicate torn blank)))) ≡ sector_at (front ++ last ∷ []) j
        → stamped (sector k (overwritten file (512 * length front) (raws (last ∷ replicate torn blank)))) ≡ sector_at (front ++ last ∷ []) k
    at_place j is holds = subst (λ (x : ℕ). stamped (sector x (overwritten file (512 * length front) (raws (last ∷ replicate torn blank)))) ≡ sector_at (front ++ last ∷ []) x) is holds

    behind_front : length front ≤ k → stamped (sector k (overwritten file (512 * length front) (raws (last ∷ replicate torn blank)))) ≡ sector_at (front ++ last ∷ []) k
    behind_front le = ⊎_elim
        (λ less. at_place (length front + (k - length front)) (omega (arith, le)) (new_one (k - length front) less))
        (λ far. at_place (length front + (torn + 1 + (k - length front - (torn + 1)))) (omega (arith, le, far)) (after_all (k - length front - (torn + 1))))
        (cases_lt (k - length front) (torn + 1))

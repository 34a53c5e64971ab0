-- A closed latch, and what a crash leaves of the bytes that open it.
use Rattle.std.proofs.Common.{◌≡◌, ◌⊎◌, inl, inr, ⊎_elim, ℕ, zero, suc, ◌+◌, ◌-◌, ◌*◌, ◌≤◌, ◌<◌, ap, Bool, true, false, List, [], ◌∷◌, ◌++◌, length, take, drop, replicate, refl, sym, ◌∙◌, subst, arith, Some, append_assoc, length-append, length-drop}
use Rattle.std.specs.Prelude.{if◌then◌else◌, ◌==◌}
use Rattle.std.specs.Int.{w16, w32, w64, from_le_bytes}
use Rattle.std.proofs.lemmas.List.{append-nil, take_at, drop_at, take-append-le, drop-take, length-take-le}
use Rattle.std.proofs.lemmas.Bool.{cases_lt}
use Rattle.tb_sectors.specs.Sectors.{sector, overwritten}
use Rattle.tb_sectors.specs.Stamped.{Stamped, Taken, nothing_taken, follows, with_sector, begins_in, Ends, Damaged, read_on, stream_of, Batch, sector_at, after_batches, closes, is_intact, sum_bytes, decoded, rotten, stamped, file_sectors}
use Rattle.tb_sectors.specs.Ranges.{IsTorn}
use Rattle.tb_sectors.specs.private.Latched.{latched}
use Rattle.tb_sectors.specs.Latches.{shut, closed_last, IsClosedAfter, end_after, latch_after, ClosedIsRead, BehindLatchNothingCounts, LatchIsAllOrNone}
use Rattle.tb_sectors.specs.private.Outcomes.{drop_parts, torn_whole}
use Rattle.tb_sectors.proofs.Mixes.{IsNext, IsAtRest, follows_next, takes, sector_bytes, not_blank}
use Rattle.tb_sectors.proofs.Journals.{batches_at_rest, batches_bytes, batches_are_some, file_sector}
use Rattle.tb_sectors.proofs.Readers.{closed_ends}

-- reading up to a closed latch

takes_shut : (t : Taken) (s : Stamped) (rest : List Stamped) → IsNext t s → read_on t (shut s ∷ rest) ≡ Ends (with_sector t (shut s))
takes_shut t s rest next =
    ap (λ (c : Bool). if c then Ends t else if follows t s then read_on (with_sector t (shut s)) rest else if begins_in (shut s ∷ rest) then Damaged t.count else Ends t) next.ready
    ∙ ap (λ (b : Bool). if b then read_on (with_sector t (shut s)) rest else if begins_in (shut s ∷ rest) then Damaged t.count else Ends t) (follows_next t s next)
    ∙ closed_ends (with_sector t (shut s)) rest refl

closed_reads : (t : Taken) (sectors left : List Stamped) → IsAtRest t sectors → 0 < length sectors → ((k : ℕ) → k < length sectors → sector_at left k ≡ sector_at (closed_last sectors) k)
    → stream_of (read_on t left) ≡ Some (t.all ++ sector_bytes sectors)
closed_reads t [] left rests some h = absurd (omega arith)
closed_reads t (s ∷ []) [] (next, whole) some h = absurd (not_blank (shut s) next.stamped (h 0 (omega arith)))
closed_reads t (s ∷ []) (x ∷ left) (next, whole) some h =
    ap (λ (y : Stamped). stream_of (read_on t (y ∷ left))) (h 0 (omega arith)) ∙ ap stream_of (takes_shut t s left next)
    ∙ ap Some (whole ∙ ap (λ (l : List ℕ). t.all ++ l) (sym (append-nil s.bytes)))
closed_reads t (s ∷ r ∷ more) [] (next, rests) some h = absurd (not_blank s next.stamped (h 0 (omega arith)))
closed_reads t (s ∷ r ∷ more) (x ∷ left) (next, rests) some h =
    ap (λ (y : Stamped). stream_of (read_on t (y ∷ left))) (h 0 (omega arith)) ∙ ap stream_of (takes t s left next)
    ∙ closed_reads (with_sector t s) (r ∷ more) left rests (omega arith) (λ k less. h (suc k) (omega (arith, less)))
    ∙ ap Some (append_assoc t.all s.bytes (sector_bytes (r ∷ more)))

pub closed_length : (l : List Stamped) → length (closed_last l) ≡ length l
closed_length [] = refl
closed_length (s ∷ []) = refl
closed_length (s ∷ r ∷ more) = ap (λ (n : ℕ). suc n) (closed_length (r ∷ more))

pub some_sectors : (first : List ℕ) (batches : List Batch) → 0 < length (after_batches first batches)
some_sectors first batches = let some = batches_are_some first batches in omega (arith, ap (λ (l : List Stamped). length l) some.is)

pub closed_is_read : ClosedIsRead
closed_is_read first batches file closed =
    let journal = after_batches first batches in
    closed_reads nothing_taken journal (file_sectors file) (batches_at_rest first batches) (some_sectors first batches)
    (λ k less. file_sector k file ∙ closed k (omega (arith, less, closed_length journal)))
    ∙ ap Some (batches_bytes first batches)

-- parts of lists

pub take_in : (i j n : ℕ) (l : List ℕ) → i + j ≤ n → take j (drop i l) ≡ take j (drop i (take n l))
take_in zero zero n l le = refl
take_in zero (suc j) zero l le = absurd (omega (arith, le))
take_in zero (suc j) (suc n) [] le = refl
take_in zero (suc j) (suc n) (x ∷ l) le = ap (λ (m : List ℕ). x ∷ m) (take_in zero j n l (omega (arith, le)))
take_in (suc i) j zero l le = absurd (omega (arith, le))
take_in (suc i) j (suc n) [] le = refl
take_in (suc i) j (suc n) (x ∷ l) le = take_in i j n l (omega (arith, le))

-- a sector that the file has whole
pub whole_sector : (k : ℕ) (f : List ℕ) → 512 * k + 512 ≤ length f → sector k f ≡ take 512 (drop (512 * k) f)
whole_sector k f le = take-append-le 512 (drop (512 * k) f) (replicate 512 0) (omega (arith, le, length-drop (512 * k) f))

same_front : (k n : ℕ) (f g : List ℕ) → 512 * k + 512 ≤ n → n ≤ length f → n ≤ length g → take n f ≡ take n g → sector k f ≡ sector k g
same_front k n f g within long also same =
    whole_sector k f (omega (arith, within, long)) ∙ take_in (512 * k) 512 n f within ∙ ap (λ (l : List ℕ). take 512 (drop (512 * k) l)) same
    ∙ sym (take_in (512 * k) 512 n g within) ∙ sym (whole_sector k g (omega (arith, within, also)))

same_behind : (k n : ℕ) (f g : List ℕ) → n ≤ 512 * k → drop n f ≡ drop n g → sector k f ≡ sector k g
same_behind k n f g past same =
    let split : 512 * k ≡ n + (512 * k - n) = omega (arith, past) in
    ap (λ (l : List ℕ). take 512 (l ++ replicate 512 0))
    (ap (λ (m : ℕ). drop m f) split ∙ drop_parts n (512 * k - n) f ∙ ap (drop (512 * k - n)) same ∙ sym (drop_parts n (512 * k - n) g) ∙ sym (ap (λ (m : ℕ). drop m g) split))

pub behind_latch_nothing_counts : BehindLatchNothingCounts
behind_latch_nothing_counts first batches old left n closed long torn k less =
    let end = end_after first batches in
    ap stamped (same_front k end left old (omega (arith, less, closed_length (after_batches first batches))) (omega (arith, long, torn.no_shorter)) long torn.before)
    ∙ closed k less

-- two sectors that differ in the latch alone

pub record SameButLatch (b c : List ℕ) : Type 0 where
  pub front : take 14 b ≡ take 14 c
  pub back : drop 16 b ≡ drop 16 c

abbrev pub latch_of : List ℕ → Bool
latch_of b = closes (take 2 (drop 14 b))

module _ (b c : List ℕ) (same : SameButLatch b c) where
  part : (i j : ℕ) → i + j ≤ 14 → take j (drop i b) ≡ take j (drop i c)
  part i j le = take_in i j 14 b le ∙ ap (λ (l : List ℕ). take j (drop i l)) same.front ∙ sym (take_in i j 14 c le)

  content : drop 20 b ≡ drop 20 c
  content = drop_parts 16 4 b ∙ ap (drop 4) same.back ∙ sym (drop_parts 16 4 c)

  pub intact_same : is_intact b ≡ is_intact c
  unfolding is_intact
  intact_same =
      ap (λ (l : List ℕ). from_le_bytes w32 (take 4 l) == from_le_bytes w32 (sum_bytes (take 14 b ++ drop 20 b))) same.back
      ∙ ap (λ (l : List ℕ). from_le_bytes w32 (take 4 (drop 16 c)) == from_le_bytes w32 (sum_bytes (l ++ drop 20 b))) same.front
      ∙ ap (λ (l : List ℕ). from_le_bytes w32 (take 4 (drop 16 c)) == from_le_bytes w32 (sum_bytes (take 14 c ++ l))) content

  pub decoded_same : decoded b ≡ latched (latch_of b) (decoded c)
  decoded_same =
      let d = decoded b in
      ap (λ (l : List ℕ). record { number = from_le_bytes w64 l; begun = d.begun; ends = d.ends; bytes = d.bytes; closed = d.closed }) (part 0 8 (omega arith))
      ∙ ap (λ (l : List ℕ). record { number = (decoded c).number; begun = from_le_bytes w16 l; ends = d.ends; bytes = d.bytes; closed = d.closed }) (part 8 2 (omega arith))
      ∙ ap (λ (l : List ℕ). record { number = (decoded c).number; begun = (decoded c).begun; ends = from_le_bytes w16 l; bytes = d.bytes; closed = d.closed }) (part 12 2 (omega arith))
      ∙ ap (λ (l : List ℕ). record { number = (decoded c).number; begun = (decoded c).begun; ends = (decoded c).ends; bytes = take (from_le_bytes w16 l) (drop 20 b); closed = d.closed }) (part 10 2 (omega arith))
      ∙ ap (λ (l : List ℕ). record { number = (decoded c).number; begun = (decoded c).begun; ends = (decoded c).ends; bytes = take (from_le_bytes w16 (take 2 (drop 10 c))) l; closed = d.closed }) content

  pub stamped_same : (s : Stamped) → stamped c ≡ shut s → stamped b ≡ latched (latch_of b) s
  stamped_same s is = by_test (is_intact c) refl
    where
      by_test : (i : Bool) → is_intact c ≡ i → stamped b ≡ latched (latch_of b) s
      by_test true e =
          ap (λ (x : Bool). if x then decoded b else rotten) (intact_same ∙ e) ∙ decoded_same
          ∙ ap (latched (latch_of b)) (sym (ap (λ (x : Bool). if x then decoded c else rotten) e) ∙ is)
      by_test false e = absurd (open_is_not_closed (ap (λ (x : Stamped). x.closed) (sym (ap (λ (x : Bool). if x then decoded c else rotten) e) ∙ is)))
        where
          open_is_not_closed : false ≡ true → ⊥
          open_is_not_closed x = cc

-- the opening of a latch

last_shut : (l : List Stamped) (m : ℕ) → length l ≡ suc m → (s : Stamped) × (sector_at (closed_last l) m ≡ shut s)
last_shut [] m e = absurd (omega (arith, e))
last_shut (s ∷ []) zero e = (s, refl)
last_shut (s ∷ []) (suc m) e = absurd (omega (arith, e))
last_shut (s ∷ r ∷ more) zero e = absurd (omega (arith, e))
last_shut (s ∷ r ∷ more) (suc m) e = last_shut (r ∷ more) m (omega (arith, e))

module _ (m : ℕ) (f left : List ℕ) (long : 512 * m + 512 ≤ length f) (torn : IsTorn (512 * m + 14) 2 f left) where
  longer : 512 * m + 512 ≤ length left
  longer = omega (arith, long, torn.no_shorter)

  -- all other sectors are as they were
  pub others : (k : ℕ) → (k ≡ m → ⊥) → sector k left ≡ sector k f
  others k other = ⊎_elim
      (λ less. same_front k (512 * m + 14) left f (omega (arith, less)) (omega (arith, longer)) (omega (arith, long)) torn.before)
      (λ le. same_behind k (512 * m + 14 + 2) left f (past le) torn.after)
      (cases_lt k m)
    where
      past : m ≤ k → 512 * m + 14 + 2 ≤ 512 * k
      past le = ⊎_elim (λ more. omega (arith, more)) (λ same. absurd (other (omega (arith, same, le)))) (cases_lt m k)

  front_of : (g : List ℕ) → 512 * m + 512 ≤ length g → take 14 (sector m g) ≡ take 14 (drop (512 * m) (take (512 * m + 14) g))
  front_of g le = ap (take 14) (whole_sector m g le) ∙ sym (take_in 0 14 512 (drop (512 * m) g) (omega arith)) ∙ take_in (512 * m) 14 (512 * m + 14) g (omega arith)

  back_of : (g : List ℕ) → 512 * m + 512 ≤ length g → drop 16 (sector m g) ≡ take 496 (drop (512 * m + 14 + 2) g)
  back_of g le =
      ap (drop 16) (whole_sector m g le) ∙ drop-take 16 496 (drop (512 * m) g)
      ∙ ap (take 496) (sym (drop_parts (512 * m) 16 g) ∙ ap (λ (n : ℕ). drop n g) (omega arith))

  pub latch_alone : SameButLatch (sector m left) (sector m f)
  latch_alone = record {
    front = front_of left longer ∙ ap (λ (l : List ℕ). take 14 (drop (512 * m) l)) torn.before ∙ sym (front_of f long);
    back = back_of left longer ∙ ap (take 496) torn.after ∙ sym (back_of f long);
  }

-- an open latch is one of the things that a crash may leave
module _ (m : ℕ) (f : List ℕ) (long : 512 * m + 512 ≤ length f) where
  abbrev at : ℕ
  at = 512 * m + 14

  opened : List ℕ
  opened = overwritten f (512 * m + 14) (0 ∷ 0 ∷ [])

  begins : length (take at f) ≡ at
  begins = length-take-le at f (omega (arith, long))

  rest_behind : drop at (overwritten f at (0 ∷ 0 ∷ [])) ≡ 0 ∷ 0 ∷ drop (at + 2) f
  rest_behind = drop_at (take at f) (0 ∷ 0 ∷ drop (at + 2) f) at begins

  same_length : length (overwritten f at (0 ∷ 0 ∷ [])) ≡ length f
  same_length = omega (arith, begins, long, length-append (take at f) (0 ∷ 0 ∷ drop (at + 2) f), length-drop (at + 2) f)

  pub opened_torn : IsTorn at 2 f (overwritten f at (0 ∷ 0 ∷ []))
  opened_torn = torn_whole at (0 ∷ 0 ∷ []) f (omega (arith, long))

  pub opened_latch : latch_of (sector m (overwritten f at (0 ∷ 0 ∷ []))) ≡ false
  opened_latch =
      let g = overwritten f at (0 ∷ 0 ∷ []) in
      ap (λ (l : List ℕ). closes (take 2 (drop 14 l))) (whole_sector m g (omega (arith, long, same_length)))
      ∙ ap closes (sym (take_in 14 2 512 (drop (512 * m) g) (omega arith)) ∙ ap (take 2) (sym (drop_parts (512 * m) 14 g) ∙ rest_behind))

pub either : (b : Bool) → (b ≡ true) ⊎ (b ≡ false)
either true = inl refl
either false = inr refl

pub place : (k m : ℕ) → (k ≡ m) ⊎ (k ≡ m → ⊥)
place k m = ⊎_elim (λ less. inr (λ e. omega (arith, less, e))) (λ le. ⊎_elim (λ more. inr (λ e. omega (arith, more, e))) (λ same. inl (omega (arith, le, same))) (cases_lt m k)) (cases_lt k m)

pub latch_is_all_or_none : LatchIsAllOrNone
latch_is_all_or_none first batches batch file left closed long will torn =
    all_or_none (length (after_batches first batches) - 1) (omega (arith, some_sectors first batches))
  where
    all_or_none : (m : ℕ) → length (after_batches first batches) ≡ suc m → IsClosedAfter first batches left ⊎ IsClosedAfter first (batch ∷ batches) left
    all_or_none m count =
        let place_is : latch_after first batches ≡ 512 * m + 14 = omega (arith, count) in
        let within : 512 * m + 512 ≤ length file = omega (arith, count, long) in
        let torn_there : IsTorn (512 * m + 14) 2 file left = subst (λ (n : ℕ). IsTorn n 2 file left) place_is torn in
        let open_there : IsClosedAfter first (batch ∷ batches) (overwritten file (512 * m + 14) (0 ∷ 0 ∷ [])) =
        subst (λ (n : ℕ). IsClosedAfter first (batch ∷ batches) (overwritten file n (0 ∷ 0 ∷ []))) place_is will in
        let last = last_shut (after_batches first batches) m count in
        let here : stamped (sector m file) ≡ shut last.0 = closed m (omega (arith, count, closed_length (after_batches first batches))) ∙ last.1 in
        let found : stamped (sector m left) ≡ latched (latch_of (sector m left)) last.0 =
        stamped_same (sector m left) (sector m file) (latch_alone m file left within torn_there) last.0 here in
        let ready : stamped (sector m (overwritten file (512 * m + 14) (0 ∷ 0 ∷ []))) ≡ latched false last.0 =
        stamped_same (sector m (overwritten file (512 * m + 14) (0 ∷ 0 ∷ []))) (sector m file)
        (latch_alone m file (overwritten file (512 * m + 14) (0 ∷ 0 ∷ [])) within (opened_torn m file within)) last.0 here
        ∙ ap (λ (c : Bool). latched c last.0) (opened_latch m file within) in
        ⊎_elim
        (λ still. inl (λ k less. ⊎_elim
        (λ e. subst (λ (x : ℕ). stamped (sector x left) ≡ sector_at (closed_last (after_batches first batches)) x) (sym e)
        (found ∙ ap (λ (c : Bool). latched c last.0) still ∙ shut_again last.0 ∙ sym last.1))
        (λ other. ap stamped (others m file left within torn_there k other) ∙ closed k less)
        (place k m)))
        (λ no_more. inr (λ k less. ⊎_elim
        (λ e. subst (λ (x : ℕ). stamped (sector x left) ≡ sector_at (closed_last (after_batches first (batch ∷ batches))) x) (sym e)
        (found ∙ ap (λ (c : Bool). latched c last.0) no_more ∙ sym ready ∙ open_there m (at_place e less)))
        (λ other. ap stamped (others m file left within torn_there k other
        ∙ sym (others m file (overwritten file (512 * m + 14) (0 ∷ 0 ∷ [])) within (opened_torn m file within) k other)) ∙ open_there k less)
        (place k m)))
        (either (latch_of (sector m left)))
      where
        shut_again : (s : Stamped) → latched true s ≡ shut s
        shut_again s = refl

        at_place : {k n : ℕ} → k ≡ m → k < n → m < n
        at_place e less = omega (arith, e, less)

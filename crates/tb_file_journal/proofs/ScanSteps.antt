-- The next step of a scan, by what follows the records that it has read.
use Rattle.std.specs.List.{starts_with}
use Rattle.std.specs.Cmp.Lexicographic.{pointwise}
use Rattle.std.proofs.Common.{true, false, nat_eq, if◌then◌else◌, ⊎_elim, ◌≡◌, inr, ℕ, ◌+◌, ◌-◌, ◌≤◌, ◌^◌, Bool, List, [], ◌∷◌, ◌++◌, length, take, drop, refl, sym, ◌∙◌, ap, subst, arith, length-append, length-drop, take-append-drop, Err}
use Rattle.std.proofs.lemmas.Grind.{common_steps}
use Rattle.std.proofs.lemmas.List.{append_assoc, take_at, drop_at, length-take-le, drop-take, take-take}
use Rattle.tb_file_journal.specs.declared.faults.JournalFault.TheVariants as faults
use Rattle.tb_file_journal.specs.declared.opening.OpenFault.TheVariants as open_faults
use Rattle.tb_file_journal.specs.declared.reading.Head.{Head}
use Rattle.tb_file_journal.specs.declared.reading.Head.TheVariants as heads
use Rattle.tb_file_journal.specs.Device.{Disk}
use Rattle.tb_file_journal.specs.Contents.{magic, NotAJournal, latch_closed, Front, Ends, Spoiled, Whole, front, Damaged, Records, with_record, with_records, walk, contents, records_end}
use Rattle.tb_file_journal.specs.Opening.{HasOpenCause}
use Rattle.tb_file_journal.specs.Scans.{ScanState, BeginsWith, IsAhead, HasRead}
use Rattle.tb_file_journal.specs.Reading.{HasAhead, head_is, FindsHead}
use Rattle.tb_file_journal.specs.private.Hops.{StartsAs}
use Rattle.std.proofs.lemmas.Bool.Decides.{Decides-eqb}
use Rattle.std.proofs.lemmas.Slice.Eq.{slice_eq-Decides}
use Rattle.tb_file_journal.proofs.BlockWalks.{take_parts, drop_parts, walk-whole, walk-spoiled, is_whole, IsFile, is_file, begins_long, ended, with_records-Records, with_records-Damaged}
use Rattle.tb_file_journal.proofs.Causes.{none_at_once}
use Rattle.tb_file_journal.proofs.Committing.{blocks_length-append}

-- by what is at the head

front_ends : (f : Front) → heads.End ≡ head_is f → f ≡ Ends
front_ends f is = grind (arith, common_steps)

front_spoiled : (f : Front) → heads.Spoiled ≡ head_is f → f ≡ Spoiled
front_spoiled f is = grind (arith, common_steps)

front_whole : (f : Front) (len : ℕ) → heads.Whole len ≡ head_is f → (r : List ℕ) × (f ≡ Whole r) × (length r ≡ len)
front_whole f len is = grind (arith, common_steps)

-- a whole block has all of its bytes
pub whole_fits : (ahead : List ℕ) (head : Head) (len : ℕ) → head ≡ head_is (front ahead) → head ≡ heads.Whole len → 11 + len ≤ length ahead
whole_fits ahead head len told is =
    let whole = front_whole (front ahead) len (sym is ∙ told) in
    omega (arith, (is_whole ahead whole.0 whole.1).within, whole.2)

-- after the records that a file begins with

module _ (records : List (List ℕ)) (file : List ℕ) (begins : BeginsWith records file) where
  abbrev end : ℕ
  end = records_end records

  parts : IsFile (take end file ++ latch_closed) records
  parts = is_file (take end file ++ latch_closed) records begins

  pub end_within : end ≤ length file
  end_within = begins_long records file begins

  first_whole : take end (take end file ++ latch_closed) ≡ take end file
  first_whole = take_at (take end file) latch_closed end (length-take-le end file end_within)

  pub goes_on : (others : List ℕ) → contents (take end file ++ others) ≡ with_records records (walk 0 end others)
  goes_on others = ap (λ (l : List ℕ). contents (l ++ others)) (sym first_whole) ∙ parts.goes_on others

  pub all : contents file ≡ with_records records (walk 0 end (drop end file))
  all = ap contents (sym (take-append-drop end file)) ∙ goes_on (drop end file)

  pub next_none : front (drop end file) ≡ Ends → contents file ≡ Records records
  next_none is = all ∙ ended records end (drop end file) is

  pub next_damaged : front (drop end file) ≡ Spoiled → contents file ≡ Damaged end
  next_damaged is = all ∙ ap (with_records records) (walk-spoiled (drop end file) end is) ∙ with_records-Damaged records end

  pub one_more : (r : List ℕ) → front (drop end file) ≡ Whole r → BeginsWith (records ++ r ∷ []) file
  one_more r is =
      let n = 11 + length r in
      let rest = take n (drop end file) in
      let whole = is_whole (drop end file) r is in
      let far : records_end (records ++ r ∷ []) ≡ end + n = omega (arith, blocks_length-append records (r ∷ [])) in
      let closed = rest ++ latch_closed in
      let nothing : drop n closed ≡ latch_closed = drop_at rest latch_closed n (length-take-le n (drop end file) whole.within) in
      let alone : walk 0 end closed ≡ Records (r ∷ []) = walk-whole closed r end (whole.stays latch_closed) ∙ ap (λ (l : List ℕ). with_record r (walk 0 (end + n) l)) nothing in
      ap (λ (k : ℕ). contents (take k file ++ latch_closed)) far
      ∙ ap contents (ap (λ (l : List ℕ). l ++ latch_closed) (take_parts end n file) ∙ append_assoc (take end file) rest latch_closed) ∙ goes_on closed
      ∙ ap (with_records records) alone ∙ with_records-Records records (r ∷ [])

-- what is ahead after a block

pub ahead_behind : (k at next : ℕ) (file ahead : List ℕ) → k ≤ length ahead → next ≡ at + k → IsAhead at file ahead → IsAhead next file (drop k ahead)
ahead_behind k at next file ahead le is same =
    let m = length (drop k ahead) in
    let long : m ≡ length ahead - k = length-drop k ahead in
    let parts : length ahead ≡ k + m = omega (arith, le, long) in
    ap (drop k) (same ∙ ap (λ (n : ℕ). take n (drop at file)) parts) ∙ drop-take k m (drop at file)
    ∙ ap (take m) (sym (drop_parts at k file) ∙ ap (λ (n : ℕ). drop n file) (sym is))

-- the steps

module _ (records : List (List ℕ)) (file : List ℕ) (old : ScanState) (read : HasRead records file old) (ahead : List ℕ) (found : FindsHead old.end file ahead) (head : Head) (told : head ≡ head_is (front ahead)) where
  stands : {f : Front} → front ahead ≡ f → front (drop (records_end records) file) ≡ f
  stands is = ap (λ (e : ℕ). front (drop e file)) (sym read.end) ∙ sym found.finds ∙ is

  pub step_ends : head ≡ heads.End → contents file ≡ Records records
  step_ends is = next_none records file read.begins (stands (front_ends (front ahead) (sym is ∙ told)))

  pub step_stays : (last : List ℕ) → HasRead records file (record { end = old.end; count = old.count; last = last; ahead = ahead })
  step_stays last = record { begins = read.begins; end = read.end; count = read.count; ahead = found.same }

  pub step_spoiled : head ≡ heads.Spoiled → contents file ≡ Damaged old.end
  step_spoiled is = next_damaged records file read.begins (stands (front_spoiled (front ahead) (sym is ∙ told))) ∙ ap Damaged (sym read.end)

  pub step_whole : (len end count : ℕ) (last behind : List ℕ) → head ≡ heads.Whole len → end ≡ old.end + (11 + len) → count ≡ old.count + 1 → last ≡ take len (drop 11 ahead) → behind ≡ drop len (drop 11 ahead) → HasRead (records ++ last ∷ []) file (record { end = end; count = count; last = last; ahead = behind })
  step_whole len end count last behind is far one taken left =
      let whole = front_whole (front ahead) len (sym is ∙ told) in
      let r = whole.0 in
      let there = is_whole ahead r whole.1 in
      let same : last ≡ r = taken ∙ ap (λ (n : ℕ). take n (drop 11 ahead)) (sym whole.2) ∙ there.is in
      let long : length last ≡ len = ap length same ∙ whole.2 in
      record {
        begins = subst (λ (x : List ℕ). BeginsWith (records ++ x ∷ []) file) (sym same) (one_more records file read.begins r (stands whole.1));
        end = omega (arith, far, read.end, long, blocks_length-append records (last ∷ []));
        count = omega (arith, one, read.count, length-append records (last ∷ []));
        ahead = subst (IsAhead end file) (drop_parts 11 len ahead ∙ sym left) (ahead_behind (11 + len) old.end end file ahead (omega (arith, there.within, whole.2)) far found.same);
      }

-- a file whose records end too far from its start

pub too_far : (disk : Disk) (records : List (List ℕ)) (scan : ScanState) → HasRead records disk.seen scan → 2 ^ 62 ≤ scan.end → HasOpenCause {T = Bool} (Err (open_faults.Device faults.Full)) disk disk
too_far disk records scan read long = record {
  ok = tt;
  cause = inr (refl, omega (arith, read.end, long, end_within records disk.seen read.begins), none_at_once disk);
}

-- a file that begins with other bytes

first_bytes : (file ahead : List ℕ) → HasAhead 8 0 file ahead → take 8 ahead ≡ take 8 file
first_bytes file ahead has = ⊎_elim
    (λ enough. ap (take 8) has.same ∙ take-take 8 (length ahead) file enough)
    (λ whole. ap (take 8) whole) has.enough

pub foreign : (file ahead : List ℕ) → HasAhead 8 0 file ahead → starts_with nat_eq ahead magic ≡ false → contents file ≡ NotAJournal
foreign file ahead has other =
    let same : starts_with nat_eq file magic ≡ false = ap (λ (l : List ℕ). pointwise nat_eq magic l) (sym (first_bytes file ahead has)) ∙ other in
    ap (λ (b : Bool). if b then walk 0 8 (drop 8 file) else NotAJournal) same

-- or as a journal does

begun : (file ahead : List ℕ) → HasAhead 8 0 file ahead → starts_with nat_eq ahead magic ≡ true → BeginsWith [] file
begun file ahead has is =
    let first : magic ≡ take 8 file = (slice_eq-Decides Decides-eqb magic (take 8 ahead) (starts_with nat_eq ahead magic) refl).0 is ∙ first_bytes file ahead has in
    ap (λ (l : List ℕ). contents (l ++ latch_closed)) (sym first)

-- before the first record
pub first_scan : (file ahead last behind : List ℕ) → HasAhead 8 0 file ahead → starts_with nat_eq ahead magic ≡ true → 8 ≤ length ahead → behind ≡ drop 8 ahead
    → HasRead [] file (record { end = 8; count = 0; last = last; ahead = behind })
first_scan file ahead last behind has is long left = record {
  begins = begun file ahead has is;
  end = refl;
  count = refl;
  ahead = subst (IsAhead 8 file) (sym left) (ahead_behind 8 0 8 file ahead long refl has.same);
}

pub begins_as : (b : Bool) (file ahead : List ℕ) → HasAhead 8 0 file ahead → b ≡ starts_with nat_eq ahead magic → StartsAs b file
begins_as true file ahead has is = begun file ahead has (sym is)
begins_as false file ahead has is = foreign file ahead has (sym is)

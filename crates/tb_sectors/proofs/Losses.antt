-- A sector that lost a write, and the bytes of one that did not.
use Rattle.std.proofs.Common.{◌≡◌, ◌≢◌, ◌⊎◌, inl, inr, ⊎_elim, ℕ, ◌+◌, ◌-◌, ◌≤◌, ap, Bool, true, false, List, [], ◌∷◌, ◌++◌, length, take, replicate, refl, ◌∙◌, subst, arith, length-append}
use Rattle.std.specs.Prelude.{nat_lt, ◌==◌, ◌&&◌, ◌||◌, if◌then◌else◌}
use Rattle.std.proofs.lemmas.List.{length-replicate}
use Rattle.std.proofs.Math.Seq.{take-append_seam}
use Rattle.std.proofs.lemmas.Nat.{from_le_bytes-to_le_bytes_2, from_le_bytes-to_le_bytes_8}
use Rattle.std.proofs.lemmas.Bool.Decides.{nat_tests}
use Rattle.tb_sectors.specs.Stamped.{Stamped, Taken, nothing_taken, follows, with_sector, begins_in, Ends, Damaged, read_on, rotten, is_intact, decoded, stamped}
use Rattle.tb_sectors.specs.StampedLaws.{LostWriteIsDamage, RotIsDamage, SectorIsReadBack}
use Rattle.tb_sectors.specs.Encoding.{number_bytes, raw, FitsSector}
use Rattle.tb_sectors.proofs.Mixes.{IsAtRest, takes}
use Rattle.tb_sectors.proofs.Journals.{batches_at_rest}

either : (b : Bool) → (b ≡ true) ⊎ (b ≡ false)
either true = inl refl
either false = inr refl

or_true : (b : Bool) → (b || true) ≡ true
or_true true = refl
or_true false = refl

-- after another number the next sector does not follow
not_after : (m k n b : ℕ) → n ≡ m + b → k ≢ m → (nat_lt 0 n && n == k + b) ≡ false
not_after m k n b is other = grind (arith, nat_tests)

breaks : (t : Taken) (s : Stamped) (rest : List Stamped) → t.closed ≡ false → follows t s ≡ false → begins_in (s ∷ rest) ≡ true → read_on t (s ∷ rest) ≡ Damaged t.count
breaks t s rest ready off begins =
    ap (λ (c : Bool). if c then Ends t else if follows t s then read_on (with_sector t s) rest else if begins_in (s ∷ rest) then Damaged t.count else Ends t) ready
    ∙ ap (λ (b : Bool). if b then read_on (with_sector t s) rest else if begins_in (s ∷ rest) then Damaged t.count else Ends t) off
    ∙ ap (λ (b : Bool). if b then Damaged t.count else Ends t) begins

lost_last : (t : Taken) (written lost : Stamped) (rest : List Stamped) → t.closed ≡ false → IsAtRest (with_sector t written) rest → begins_in rest ≡ true
    → lost.number ≢ written.number → lost.closed ≡ false
    → (read_on t (lost ∷ rest) ≡ Damaged t.count) ⊎ (read_on t (lost ∷ rest) ≡ Damaged (t.count + 1))
lost_last t written lost [] ready rests begins other lost_open = absurd (false_is_not_true begins)
  where
    false_is_not_true : false ≡ true → ⊥
    false_is_not_true e = cc
lost_last t written lost (r ∷ rest) ready (next, rests) begins other lost_open =
    ⊎_elim
    (λ on. inr (ap (λ (c : Bool). if c then Ends t else if follows t lost then read_on (with_sector t lost) (r ∷ rest) else if begins_in (lost ∷ r ∷ rest) then Damaged t.count else Ends t) ready
    ∙ ap (λ (b : Bool). if b then read_on (with_sector t lost) (r ∷ rest) else if begins_in (lost ∷ r ∷ rest) then Damaged t.count else Ends t) on
    ∙ breaks (with_sector t lost) r rest lost_open (not_after written.number lost.number r.number r.begun next.number other) begins))
    (λ off. inl (breaks t lost (r ∷ rest) ready off (ap (λ (b : Bool). nat_lt 0 lost.begun || b) begins ∙ or_true (nat_lt 0 lost.begun))))
    (either (follows t lost))

lost_at : (t : Taken) (before : List Stamped) (written lost : Stamped) (rest : List Stamped) → IsAtRest t (before ++ written ∷ rest) → begins_in rest ≡ true
    → lost.number ≢ written.number → lost.closed ≡ false
    → (read_on t (before ++ lost ∷ rest) ≡ Damaged (t.count + length before)) ⊎ (read_on t (before ++ lost ∷ rest) ≡ Damaged (t.count + length before + 1))
lost_at t [] written lost rest (next, rests) begins other lost_open =
    ⊎_elim (λ e. inl (e ∙ ap Damaged (omega arith))) (λ e. inr (e ∙ ap Damaged (omega arith))) (lost_last t written lost rest next.ready rests begins other lost_open)
lost_at t (b ∷ before) written lost rest (next, rests) begins other lost_open =
    ⊎_elim (λ e. inl (takes t b (before ++ lost ∷ rest) next ∙ e ∙ ap Damaged (omega arith))) (λ e. inr (takes t b (before ++ lost ∷ rest) next ∙ e ∙ ap Damaged (omega arith)))
    (lost_at (with_sector t b) before written lost rest rests begins other lost_open)

pub lost_write_is_damage : LostWriteIsDamage
lost_write_is_damage first batches before rest written lost is begins other lost_open =
    ⊎_elim (λ e. inl (e ∙ ap Damaged (omega arith))) (λ e. inr (e ∙ ap Damaged (omega arith)))
    (lost_at nothing_taken before written lost rest (subst (IsAtRest nothing_taken) is (batches_at_rest first batches)) begins other lost_open)

rot_at : (t : Taken) (before : List Stamped) (written : Stamped) (rest : List Stamped) → IsAtRest t (before ++ written ∷ rest)
    → read_on t (before ++ rotten ∷ rest) ≡ Damaged (t.count + length before)
rot_at t [] written rest (next, rests) = breaks t rotten rest next.ready refl refl ∙ ap Damaged (omega arith)
rot_at t (b ∷ before) written rest (next, rests) = takes t b (before ++ rotten ∷ rest) next ∙ rot_at (with_sector t b) before written rest rests ∙ ap Damaged (omega arith)

pub rot_is_damage : RotIsDamage
rot_is_damage first batches before rest written is =
    rot_at nothing_taken before written rest (subst (IsAtRest nothing_taken) is (batches_at_rest first batches)) ∙ ap Damaged (omega arith)

-- bytes

latch_back : (c : Bool) → ((if c then 90 else 0) == 90 && (if c then 195 else 0) == 195) ≡ c
latch_back true = refl
latch_back false = refl

decoded_back : (s : Stamped) → FitsSector s → decoded (raw s) ≡ s
unfolding raw number_bytes
decoded_back s fits =
    let d = decoded (raw s) in
    let used = from_le_bytes-to_le_bytes_2 (length s.bytes) (omega (arith, fits.bytes)) in
    ap (λ (n : ℕ). record { number = n; begun = d.begun; ends = d.ends; bytes = d.bytes; closed = d.closed }) (from_le_bytes-to_le_bytes_8 s.number fits.number)
    ∙ ap (λ (n : ℕ). record { number = s.number; begun = n; ends = d.ends; bytes = d.bytes; closed = d.closed }) (from_le_bytes-to_le_bytes_2 s.begun fits.begun)
    ∙ ap (λ (n : ℕ). record { number = s.number; begun = s.begun; ends = n; bytes = d.bytes; closed = d.closed }) (from_le_bytes-to_le_bytes_2 s.ends fits.ends)
    ∙ ap (λ (n : ℕ). record { number = s.number; begun = s.begun; ends = s.ends; bytes = take n (s.bytes ++ replicate (492 - length s.bytes) 0); closed = d.closed }) used
    ∙ ap (λ (l : List ℕ). record { number = s.number; begun = s.begun; ends = s.ends; bytes = l; closed = d.closed }) (take-append_seam s.bytes (replicate (492 - length s.bytes) 0))
    ∙ ap (λ (c : Bool). record { number = s.number; begun = s.begun; ends = s.ends; bytes = s.bytes; closed = c }) (latch_back s.closed)

same_number : (n : ℕ) → (n == n) ≡ true
same_number n = grind (arith, nat_tests)

-- what is encoded has its checksum
pub raw_intact : (s : Stamped) → is_intact (raw s) ≡ true
unfolding raw number_bytes is_intact
raw_intact s = same_number _

pub read_back : (s : Stamped) → FitsSector s → stamped (raw s) ≡ s
read_back s fits = ap (λ (b : Bool). if b then decoded (raw s) else rotten) (raw_intact s) ∙ decoded_back s fits

pub raw_length : (s : Stamped) → length s.bytes ≤ 492 → length (raw s) ≡ 512
unfolding raw number_bytes
raw_length s fits = omega (arith, length-append s.bytes (replicate (492 - length s.bytes) 0), length-replicate {A = ℕ} (492 - length s.bytes) 0)

pub sector_is_read_back : SectorIsReadBack
sector_is_read_back s fits = (read_back s fits, raw_length s fits.bytes)

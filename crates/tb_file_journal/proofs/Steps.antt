-- What a crash leaves in each step of a commit, a recovery and a creation.
use Rattle.std.proofs.Common.{◌≡◌, ◌⊎◌, inl, inr, ℕ, suc, ◌+◌, ◌-◌, ◌≤◌, Bool, true, false, List, [], ◌∷◌, ◌++◌, length, take, drop, flat_map, refl, sym, ◌∙◌, ap, arith, length-append, length-drop, append_assoc, take-append-drop, if◌then◌else◌}
use Rattle.std.proofs.lemmas.Grind.{common_steps}
use Rattle.std.proofs.lemmas.List.{append-nil, take_at, drop_at, take_all, drop_all, take-take, length-take-le}
use Rattle.std.specs.List.{AllByRecursion}
use Rattle.std.specs.Int.{w32, from_le_bytes}
use Rattle.tb_file_journal.specs.private.MemoryLaws.{drop_parts}
use Rattle.tb_file_journal.specs.Device.{Torn, Cut, overwritten}
use Rattle.tb_file_journal.specs.Contents.{Fits, latch_closed, latch_open, is_closed, block, at_rest, Front, Ends, Spoiled, Whole, with_record, with_records, behind_latch, front, Records, joined_contents, skipped, walk, contents, blocks_length, records_end}
use Rattle.tb_file_journal.proofs.BlockWalks.{take_parts, IsFile, is_file, with_records-Records, ended, ends_closed, latch_there}
use Rattle.tb_file_journal.proofs.Blocks.{walk-at_rest, length-blocks}

-- latches

-- a closed latch ends the records, whatever follows it
first_choice : (b : Bool) (f : Front) → b ≡ true → (if b then Ends else f) ≡ Ends
first_choice b f is = grind (arith, common_steps)

other_choice : (b : Bool) (f : Front) → b ≡ false → (if b then Ends else f) ≡ f
other_choice b f is = grind (arith, common_steps)

-- what is after an open latch
abbrev open_front : List ℕ → Front
open_front (a ∷ b ∷ c ∷ s ∷ t ∷ u ∷ v ∷ rest) = behind_latch (a ∷ b ∷ c ∷ []) (from_le_bytes w32 (s ∷ t ∷ u ∷ v ∷ [])) rest
open_front short = Spoiled

-- by the latch, and then by what follows it
front_is : (w x y z : ℕ) (behind : List ℕ) → front (w ∷ x ∷ y ∷ z ∷ behind) ≡ (if is_closed w x y z then Ends else open_front behind)
front_is w x y z [] = refl
front_is w x y z (a ∷ []) = refl
front_is w x y z (a ∷ b ∷ []) = refl
front_is w x y z (a ∷ b ∷ c ∷ []) = refl
front_is w x y z (a ∷ b ∷ c ∷ s ∷ []) = refl
front_is w x y z (a ∷ b ∷ c ∷ s ∷ t ∷ []) = refl
front_is w x y z (a ∷ b ∷ c ∷ s ∷ t ∷ u ∷ []) = refl
front_is w x y z (a ∷ b ∷ c ∷ s ∷ t ∷ u ∷ v ∷ rest) = refl

pub closed_latch : (w x y z : ℕ) (behind : List ℕ) → is_closed w x y z ≡ true → front (w ∷ x ∷ y ∷ z ∷ behind) ≡ Ends
closed_latch w x y z behind h = front_is w x y z behind ∙ first_choice (is_closed w x y z) (open_front behind) h

pub closed_front : (behind : List ℕ) → front (latch_closed ++ behind) ≡ Ends
closed_front behind = closed_latch 90 195 150 105 behind refl

-- any other latch is as good as the one that is written
any_latch : (w x y z : ℕ) (behind : List ℕ) → is_closed w x y z ≡ false → front (w ∷ x ∷ y ∷ z ∷ behind) ≡ front (255 ∷ 255 ∷ 255 ∷ 255 ∷ behind)
any_latch w x y z behind h = front_is w x y z behind ∙ other_choice (is_closed w x y z) (open_front behind) h ∙ sym (front_is 255 255 255 255 behind)

-- a block is skipped with what is in its latch
skip_latch : (f : Front) (at w x y p q r : ℕ) (behind : List ℕ)
    → joined_contents f at (walk (skipped f) (at + 1) (w ∷ x ∷ y ∷ behind)) ≡ joined_contents f at (walk (skipped f) (at + 1) (p ∷ q ∷ r ∷ behind))
skip_latch Ends at w x y p q r behind = refl
skip_latch Spoiled at w x y p q r behind = refl
skip_latch (Whole bytes) at w x y p q r behind =
    let far : 10 + length bytes ≡ suc (suc (suc (7 + length bytes))) = omega arith in
    ap (λ (n : ℕ). with_record bytes (walk n (at + 1) (w ∷ x ∷ y ∷ behind))) far ∙ ap (λ (n : ℕ). with_record bytes (walk n (at + 1) (p ∷ q ∷ r ∷ behind))) (sym far)

pub walk-any_latch : (w x y z at : ℕ) (behind : List ℕ) → is_closed w x y z ≡ false → walk 0 at (w ∷ x ∷ y ∷ z ∷ behind) ≡ walk 0 at (255 ∷ 255 ∷ 255 ∷ 255 ∷ behind)
walk-any_latch w x y z at behind h =
    ap (λ (f : Front). joined_contents f at (walk (skipped f) (at + 1) (x ∷ y ∷ z ∷ behind))) (any_latch w x y z behind h)
    ∙ skip_latch (front (255 ∷ 255 ∷ 255 ∷ 255 ∷ behind)) at x y z 255 255 255 behind

-- what ends the records still ends them if the bytes are truncated

front_cut : (k : ℕ) (bytes : List ℕ) → front bytes ≡ Ends → 4 ≤ k → front (take k bytes) ≡ Ends
front_cut k [] is some = absurd (cc)
front_cut k (w ∷ []) is some = absurd (cc)
front_cut k (w ∷ x ∷ []) is some = absurd (cc)
front_cut k (w ∷ x ∷ y ∷ []) is some = absurd (cc)
front_cut k (w ∷ x ∷ y ∷ z ∷ rest) is some =
    let far : k ≡ suc (suc (suc (suc (k - 4)))) = omega (arith, some) in
    ap (λ (n : ℕ). front (take n (w ∷ x ∷ y ∷ z ∷ rest))) far ∙ closed_latch w x y z (take (k - 4) rest) (ends_closed w x y z rest is)

-- only the blocks count in a file of records

module _ (file : List ℕ) (records : List (List ℕ)) (reads : contents file ≡ Records records) where
  abbrev end : ℕ
  end = records_end records

  parts : IsFile file records
  parts = is_file file records reads

  pub within : end ≤ length file
  within = parts.within

  pub length_front : length (take end file) ≡ end
  length_front = length-take-le end file within

  -- whatever ends the records may follow them
  pub with_end : (others : List ℕ) → front others ≡ Ends → contents (take end file ++ others) ≡ Records records
  with_end others is = parts.goes_on others ∙ ended records end others is

  pub room : end + 4 ≤ length file
  room = parts.room

  -- nothing counts except the records and the closed latch after them
  abbrev pub rested : List ℕ
  rested = take (end + 4) file

  pub rested_is : rested ≡ take end file ++ latch_closed
  rested_is = take_parts end 4 file ∙ ap (λ (l : List ℕ). take end file ++ l) (latch_there (drop end file) parts.ends).1

  pub reads_rested : contents rested ≡ Records records
  reads_rested = ap contents rested_is ∙ with_end latch_closed refl

  pub rested_closed : rested ≡ take end rested ++ latch_closed
  rested_closed = rested_is ∙ ap (λ (l : List ℕ). l ++ latch_closed) (sym (take-take end (end + 4) file (omega arith)))

  -- a cut after that latch
  pub cut_torn : (c : List ℕ) → Cut (end + 4) file c → contents c ≡ Records records
  cut_torn c cut =
      let le = room in
      let k = length c - end in
      let some : 4 ≤ k = omega (arith, cut.no_shorter, le) in
      let far : length c ≡ end + k = omega (arith, cut.no_shorter, le) in
      let whole : c ≡ take end file ++ take k (drop end file) = sym cut.front ∙ ap (λ (n : ℕ). take n file) far ∙ take_parts end k file in
      ap contents whole ∙ with_end (take k (drop end file)) (front_cut k (drop end file) parts.ends some)

-- a file at rest: its blocks, and a closed latch

module _ (file : List ℕ) (records : List (List ℕ)) (reads : contents file ≡ Records records) (closed : file ≡ take (records_end records) file ++ latch_closed) where
  abbrev latch_at : ℕ
  latch_at = records_end records

  pub length_file : length file ≡ latch_at + 4
  length_file = ap length closed ∙ length-append (take latch_at file) latch_closed ∙ ap (λ (n : ℕ). n + 4) (length_front file records reads)

  -- the closed latch is in each outcome of a write after it
  pub behind_torn : (n : ℕ) (c : List ℕ) → Torn (latch_at + 4) n file c → contents c ≡ Records records
  behind_torn n c torn =
      let long = length_file in
      let begins : take (latch_at + 4) c ≡ take latch_at file ++ latch_closed = torn.before ∙ take_all (latch_at + 4) file (omega (arith, long)) ∙ closed in
      let whole : c ≡ take latch_at file ++ (latch_closed ++ drop (latch_at + 4) c) =
      sym (take-append-drop (latch_at + 4) c) ∙ ap (λ (l : List ℕ). l ++ drop (latch_at + 4) c) begins ∙ append_assoc (take latch_at file) latch_closed (drop (latch_at + 4) c) in
      ap contents whole ∙ with_end file records reads (latch_closed ++ drop (latch_at + 4) c) (closed_front (drop (latch_at + 4) c))

  pub written_behind : (tail c : List ℕ) → c ≡ overwritten file (latch_at + 4) tail → c ≡ take latch_at file ++ (latch_closed ++ tail)
  written_behind tail c is =
      let long = length_file in
      is
      ∙ ap (λ (l : List ℕ). l ++ (tail ++ drop (latch_at + 4 + length tail) file)) (take_all (latch_at + 4) file (omega (arith, long)) ∙ closed)
      ∙ ap (λ (l : List ℕ). (take latch_at file ++ latch_closed) ++ (tail ++ l)) (drop_all (latch_at + 4 + length tail) file (omega (arith, long)))
      ∙ ap (λ (l : List ℕ). (take latch_at file ++ latch_closed) ++ l) (append-nil tail)
      ∙ append_assoc (take latch_at file) latch_closed tail

  module _ (tail : List ℕ) (new : List (List ℕ)) (opens : latch_open ++ tail ≡ at_rest new) (fits : AllByRecursion Fits new) where
    pub front_staged : take latch_at (take latch_at file ++ (latch_closed ++ tail)) ≡ take latch_at file
    front_staged = take_at (take latch_at file) (latch_closed ++ tail) latch_at (length_front file records reads)

    pub back_staged : drop (latch_at + 4) (take latch_at file ++ (latch_closed ++ tail)) ≡ tail
    back_staged =
        ap (drop (latch_at + 4)) (sym (append_assoc (take latch_at file) latch_closed tail))
        ∙ drop_at (take latch_at file ++ latch_closed) tail (latch_at + 4) (length-append (take latch_at file) latch_closed ∙ ap (λ (n : ℕ). n + 4) (length_front file records reads))

    pub long_staged : length (take latch_at file ++ (latch_closed ++ tail)) ≡ latch_at + (4 + length tail)
    long_staged = omega (arith, length-append (take latch_at file) (latch_closed ++ tail), length-append latch_closed tail, length_front file records reads)

    pub reads_new : contents (take latch_at file ++ (latch_open ++ tail)) ≡ Records (records ++ new)
    reads_new =
        grind (arith, common_steps, is_file file records reads, walk-at_rest new latch_at fits, with_records-Records records new)

    -- the blocks are whole in each outcome of the write of the latch
    pub four : (l : List ℕ) → 4 ≤ length l → drop 4 l ≡ tail → (w : ℕ) × (x : ℕ) × (y : ℕ) × (z : ℕ) × (l ≡ w ∷ x ∷ y ∷ z ∷ tail)
    four [] long is = absurd (omega (arith, long))
    four (w ∷ []) long is = absurd (omega (arith, long))
    four (w ∷ x ∷ []) long is = absurd (omega (arith, long))
    four (w ∷ x ∷ y ∷ []) long is = absurd (omega (arith, long))
    four (w ∷ x ∷ y ∷ z ∷ rest) long is = (w, x, y, z, ap (λ (t : List ℕ). w ∷ x ∷ y ∷ z ∷ t) is)

    pub latch_torn : (c : List ℕ) → Torn latch_at 4 (take latch_at file ++ (latch_closed ++ tail)) c → (contents c ≡ Records records) ⊎ (contents c ≡ Records (records ++ new))
    latch_torn c torn =
        let latch = four (drop latch_at c) (omega (arith, torn.no_shorter, long_staged, length-drop latch_at c)) (sym (drop_parts latch_at 4 c) ∙ torn.after ∙ back_staged) in
        let whole : c ≡ take latch_at file ++ (latch.0 ∷ latch.1 ∷ latch.2 ∷ latch.3 ∷ tail) =
        sym (take-append-drop latch_at c) ∙ ap (λ (l : List ℕ). l ++ drop latch_at c) (torn.before ∙ front_staged) ∙ ap (λ (l : List ℕ). take latch_at file ++ l) latch.4 in
        by_latch c latch.0 latch.1 latch.2 latch.3 whole (is_closed latch.0 latch.1 latch.2 latch.3) refl
      where
        by_latch : (c : List ℕ) (w x y z : ℕ) → c ≡ take latch_at file ++ (w ∷ x ∷ y ∷ z ∷ tail) → (b : Bool) → is_closed w x y z ≡ b → (contents c ≡ Records records) ⊎ (contents c ≡ Records (records ++ new))
        by_latch c w x y z whole true is = inl (ap contents whole ∙ with_end file records reads (w ∷ x ∷ y ∷ z ∷ tail) (closed_latch w x y z tail is))
        by_latch c w x y z whole false is = inr
            (ap contents whole ∙ (is_file file records reads).goes_on (w ∷ x ∷ y ∷ z ∷ tail)
            ∙ ap (with_records records) (walk-any_latch w x y z latch_at tail is)
            ∙ sym ((is_file file records reads).goes_on (latch_open ++ tail)) ∙ reads_new)

    pub opened : (c : List ℕ) → c ≡ overwritten (take latch_at file ++ (latch_closed ++ tail)) latch_at latch_open → c ≡ take latch_at file ++ (latch_open ++ tail)
    opened c is = is ∙ ap (λ (l : List ℕ). l ++ (latch_open ++ drop (latch_at + 4) (take latch_at file ++ (latch_closed ++ tail)))) front_staged ∙ ap (λ (l : List ℕ). take latch_at file ++ (latch_open ++ l)) back_staged

    blocks_length-append : (xs ys : List (List ℕ)) → blocks_length (xs ++ ys) ≡ blocks_length xs + blocks_length ys
    blocks_length-append [] ys = sym (let e : 0 + blocks_length ys ≡ blocks_length ys = omega arith in e)
    blocks_length-append (x ∷ xs) ys = omega (arith, blocks_length-append xs ys)

    pub end_new : records_end (records ++ new) ≡ latch_at + blocks_length new
    end_new = omega (arith, blocks_length-append records new)

    pub closed_new : take latch_at file ++ (latch_open ++ tail) ≡ take (records_end (records ++ new)) (take latch_at file ++ (latch_open ++ tail)) ++ latch_closed
    closed_new =
        let all : take latch_at file ++ (latch_open ++ tail) ≡ (take latch_at file ++ flat_map block new) ++ latch_closed =
        ap (λ (l : List ℕ). take latch_at file ++ l) opens ∙ sym (append_assoc (take latch_at file) (flat_map block new) (latch_closed)) in
        let long : length (take latch_at file ++ flat_map block new) ≡ records_end (records ++ new) =
        length-append (take latch_at file) (flat_map block new) ∙ ap (λ (n : ℕ). n + length (flat_map block new)) (length_front file records reads)
        ∙ ap (λ (n : ℕ). latch_at + n) (length-blocks new) ∙ sym end_new in
        all ∙ ap (λ (l : List ℕ). l ++ latch_closed) (sym (ap (take (records_end (records ++ new))) all ∙ take_at (take latch_at file ++ flat_map block new) (latch_closed) (records_end (records ++ new)) long))

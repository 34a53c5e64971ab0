-- How what a file represents follows from its blocks.
use Rattle.std.proofs.Common.{rules, ◌≡◌, ℕ, zero, suc, ◌+◌, ◌≤◌, ◌==◌, ◌&&◌, Bool, true, false, List, [], ◌∷◌, ◌++◌, length, take, drop, refl, sym, ◌∙◌, ap, subst, arith, nat_le, nat_eq, length-append, length-drop, length-take, if◌then◌else◌}
use Rattle.std.proofs.lemmas.Grind.{common_steps}
use Rattle.std.proofs.lemmas.List.{append-nil, append_assoc, take_at, drop_at, length-take-le, take-append-drop, take-take}
use Rattle.std.proofs.lemmas.Bool.Decides.{nat_tests, Decides-eqb}
use Rattle.std.proofs.lemmas.Slice.Eq.{slice_eq-Decides}
use Rattle.std.specs.Int.{w32, from_le_bytes}
use Rattle.std.specs.List.{starts_with}
use Rattle.tb_file_journal.specs.Checksum.{checksum}
pub use Rattle.tb_file_journal.specs.private.MemoryLaws.{drop_parts}
use Rattle.tb_file_journal.specs.Contents.{magic, latch_closed, is_closed, Front, Ends, Spoiled, Whole, behind_latch, front, Contents, NotAJournal, Damaged, Records, with_record, with_records, joined_contents, skipped, walk, contents, blocks_length, records_end}

-- lists

take_nil : (k : ℕ) → [] ≡ take {A = ℕ} k []
take_nil zero = refl
take_nil (suc k) = refl

-- a longer prefix, in two parts
pub take_parts : (m n : ℕ) (l : List ℕ) → take (m + n) l ≡ take m l ++ take n (drop m l)
take_parts zero n l = ap (λ (k : ℕ). take k l) (omega arith)
take_parts (suc m) n [] = ap (λ (k : ℕ). take k []) (let e : suc m + n ≡ suc (m + n) = omega arith in e) ∙ take_nil n
take_parts (suc m) n (x ∷ l) = ap (λ (k : ℕ). take k (x ∷ l)) (let e : suc m + n ≡ suc (m + n) = omega arith in e) ∙ ap (λ (r : List ℕ). x ∷ r) (take_parts m n l)

-- the walk

walk-skip : (k at : ℕ) (bytes : List ℕ) → walk k at bytes ≡ walk 0 (at + k) (drop k bytes)
walk-skip zero at bytes = let e : at ≡ at + zero = omega arith in ap (λ (a : ℕ). walk 0 a bytes) e
walk-skip (suc k) at [] = refl
walk-skip (suc k) at (b ∷ bytes) = let e : at + 1 + k ≡ at + suc k = omega arith in walk-skip k (at + 1) bytes ∙ ap (λ (a : ℕ). walk 0 a (drop k bytes)) e

pub walk-whole : (bytes record_bytes : List ℕ) (at : ℕ) → front bytes ≡ Whole record_bytes → walk 0 at bytes ≡ with_record record_bytes (walk 0 (at + (11 + length record_bytes)) (drop (11 + length record_bytes) bytes))
walk-whole [] r at is = absurd (cc)
walk-whole (b ∷ behind) r at is =
    let far : 11 + length r ≡ suc (10 + length r) = omega arith in
    let place : at + 1 + (10 + length r) ≡ at + (11 + length r) = omega arith in
    ap (λ (f : Front). joined_contents f at (walk (skipped f) (at + 1) behind)) is
    ∙ ap (with_record r) (walk-skip (10 + length r) (at + 1) behind ∙ ap (λ (a : ℕ). walk 0 a (drop (10 + length r) behind)) place)
    ∙ ap (λ (n : ℕ). with_record r (walk 0 (at + (11 + length r)) (drop n (b ∷ behind)))) (sym far)

pub walk-ends : (bytes : List ℕ) (at : ℕ) → front bytes ≡ Ends → walk 0 at bytes ≡ Records []
walk-ends [] at is = absurd (cc)
walk-ends (b ∷ behind) at is = ap (λ (f : Front). joined_contents f at (walk (skipped f) (at + 1) behind)) is

pub walk-spoiled : (bytes : List ℕ) (at : ℕ) → front bytes ≡ Spoiled → walk 0 at bytes ≡ Damaged at
walk-spoiled [] at is = refl
walk-spoiled (b ∷ behind) at is = ap (λ (f : Front). joined_contents f at (walk (skipped f) (at + 1) behind)) is

-- a whole block stays whole, whatever follows it

pub record IsWhole (bytes record_bytes : List ℕ) : Type 0 where
  pub within : 11 + length record_bytes ≤ length bytes
  pub is : take (length record_bytes) (drop 11 bytes) ≡ record_bytes
  pub stays : (others : List ℕ) → front (take (11 + length record_bytes) bytes ++ others) ≡ Whole record_bytes

choice_true : {X : Type 0} (b : Bool) (x y : X) → b ≡ true → (if b then x else y) ≡ x
choice_true b x y is = grind (arith, common_steps)

choice_false : {X : Type 0} (b : Bool) (x y : X) → b ≡ false → (if b then x else y) ≡ y
choice_false b x y is = grind (arith, common_steps)

both_true : (a b : Bool) → (a && b) ≡ true → (a ≡ true) × (b ≡ true)
both_true a b is = grind (arith, common_steps)

whole_choice : (b : Bool) (r s : List ℕ) → (if b then Whole s else Spoiled) ≡ Whole r → (b ≡ true) × (s ≡ r)
whole_choice b r s is = grind (arith, common_steps)

never : (b : Bool) (r : List ℕ) → (if b then Ends else Spoiled) ≡ Whole r → ⊥
never b r is = grind (arith, common_steps)

open_choice : (b : Bool) (f : Front) (r : List ℕ) → (if b then Ends else f) ≡ Whole r → (b ≡ false) × (f ≡ Whole r)
open_choice b f r is = grind (arith, common_steps)

pub record StaysBehind (size : List ℕ) (sum : ℕ) (rest record_bytes : List ℕ) : Type 0 where
  pub count : from_le_bytes w32 (size ++ 0 ∷ []) ≡ length record_bytes
  pub within : length record_bytes ≤ length rest
  pub is : take (length record_bytes) rest ≡ record_bytes
  pub stays : (others : List ℕ) → behind_latch size sum (take (length record_bytes) rest ++ others) ≡ Whole record_bytes

pub stays_behind : (size : List ℕ) (sum : ℕ) (rest record_bytes : List ℕ) → behind_latch size sum rest ≡ Whole record_bytes → StaysBehind size sum rest record_bytes
stays_behind size sum rest r is =
    search (rules, whole_choice, both_true, length-take-le, take_at, room_for, length-append, choice_true, both)
  where
    room_for : (a b : ℕ) → a ≤ b → nat_le a b ≡ true
    room_for a b le = grind (arith, nat_tests)

    both : {a b : Bool} → a ≡ true → b ≡ true → (a && b) ≡ true
    both {a} {b} x y = ap (λ (z : Bool). z && b) x ∙ y

pub is_whole : (bytes record_bytes : List ℕ) → front bytes ≡ Whole record_bytes → IsWhole bytes record_bytes
is_whole [] r is = absurd (cc)
is_whole (w ∷ []) r is = absurd (cc)
is_whole (w ∷ x ∷ []) r is = absurd (cc)
is_whole (w ∷ x ∷ y ∷ []) r is = absurd (cc)
is_whole (w ∷ x ∷ y ∷ z ∷ []) r is = absurd (never (is_closed w x y z) r is)
is_whole (w ∷ x ∷ y ∷ z ∷ a ∷ []) r is = absurd (never (is_closed w x y z) r is)
is_whole (w ∷ x ∷ y ∷ z ∷ a ∷ b ∷ []) r is = absurd (never (is_closed w x y z) r is)
is_whole (w ∷ x ∷ y ∷ z ∷ a ∷ b ∷ c ∷ []) r is = absurd (never (is_closed w x y z) r is)
is_whole (w ∷ x ∷ y ∷ z ∷ a ∷ b ∷ c ∷ s ∷ []) r is = absurd (never (is_closed w x y z) r is)
is_whole (w ∷ x ∷ y ∷ z ∷ a ∷ b ∷ c ∷ s ∷ t ∷ []) r is = absurd (never (is_closed w x y z) r is)
is_whole (w ∷ x ∷ y ∷ z ∷ a ∷ b ∷ c ∷ s ∷ t ∷ u ∷ []) r is = absurd (never (is_closed w x y z) r is)
is_whole (w ∷ x ∷ y ∷ z ∷ a ∷ b ∷ c ∷ s ∷ t ∷ u ∷ v ∷ rest) r is =
    let size = a ∷ b ∷ c ∷ [] in
    let sum = from_le_bytes w32 (s ∷ t ∷ u ∷ v ∷ []) in
    let chosen = open_choice (is_closed w x y z) (behind_latch size sum rest) r is in
    let kept = stays_behind size sum rest r chosen.1 in
    let far : 11 + length r ≡ suc (suc (suc (suc (suc (suc (suc (suc (suc (suc (suc (length r))))))))))) = omega arith in
    record {
      within = omega (arith, kept.within);
      is = kept.is;
      stays = λ others.
          let head = take (length r) rest ++ others in
          ap (λ (k : ℕ). front (take k (w ∷ x ∷ y ∷ z ∷ a ∷ b ∷ c ∷ s ∷ t ∷ u ∷ v ∷ rest) ++ others)) far
          ∙ choice_false (is_closed w x y z) Ends (behind_latch size sum head) chosen.0 ∙ kept.stays others;
    }

-- what ends the records is a closed latch

only_closed : (b : Bool) (f : Front) → (f ≡ Ends → ⊥) → (if b then Ends else f) ≡ Ends → b ≡ true
only_closed true f never is = refl
only_closed false f never is = absurd (never is)

spoiled_no_end : Spoiled ≡ Ends → ⊥
spoiled_no_end is = absurd (cc)

behind_no_end : (size : List ℕ) (sum : ℕ) (rest : List ℕ) → behind_latch size sum rest ≡ Ends → ⊥
behind_no_end size sum rest is = never_ends (nat_le (from_le_bytes w32 (size ++ 0 ∷ [])) (length rest) && (sum == checksum (size ++ take (from_le_bytes w32 (size ++ 0 ∷ [])) rest))) (take (from_le_bytes w32 (size ++ 0 ∷ [])) rest) is
  where
    never_ends : (b : Bool) (r : List ℕ) → (if b then Whole r else Spoiled) ≡ Ends → ⊥
    never_ends b r is = grind (arith, common_steps)

is_pattern : (w x y z : ℕ) → is_closed w x y z ≡ true → w ∷ x ∷ y ∷ z ∷ [] ≡ latch_closed
is_pattern w x y z is = grind (arith, common_steps, nat_tests)

pub ends_closed : (w x y z : ℕ) (behind : List ℕ) → front (w ∷ x ∷ y ∷ z ∷ behind) ≡ Ends → is_closed w x y z ≡ true
ends_closed w x y z [] is = only_closed (is_closed w x y z) Spoiled spoiled_no_end is
ends_closed w x y z (a ∷ []) is = only_closed (is_closed w x y z) Spoiled spoiled_no_end is
ends_closed w x y z (a ∷ b ∷ []) is = only_closed (is_closed w x y z) Spoiled spoiled_no_end is
ends_closed w x y z (a ∷ b ∷ c ∷ []) is = only_closed (is_closed w x y z) Spoiled spoiled_no_end is
ends_closed w x y z (a ∷ b ∷ c ∷ s ∷ []) is = only_closed (is_closed w x y z) Spoiled spoiled_no_end is
ends_closed w x y z (a ∷ b ∷ c ∷ s ∷ t ∷ []) is = only_closed (is_closed w x y z) Spoiled spoiled_no_end is
ends_closed w x y z (a ∷ b ∷ c ∷ s ∷ t ∷ u ∷ []) is = only_closed (is_closed w x y z) Spoiled spoiled_no_end is
ends_closed w x y z (a ∷ b ∷ c ∷ s ∷ t ∷ u ∷ v ∷ rest) is =
    only_closed (is_closed w x y z) (behind_latch (a ∷ b ∷ c ∷ []) (from_le_bytes w32 (s ∷ t ∷ u ∷ v ∷ [])) rest) (behind_no_end (a ∷ b ∷ c ∷ []) (from_le_bytes w32 (s ∷ t ∷ u ∷ v ∷ [])) rest) is

-- four bytes at least, of which the first four are the pattern
pub latch_there : (bytes : List ℕ) → front bytes ≡ Ends → (4 ≤ length bytes) × (take 4 bytes ≡ latch_closed)
latch_there [] is = absurd (cc)
latch_there (w ∷ []) is = absurd (cc)
latch_there (w ∷ x ∷ []) is = absurd (cc)
latch_there (w ∷ x ∷ y ∷ []) is = absurd (cc)
latch_there (w ∷ x ∷ y ∷ z ∷ behind) is = (omega arith, is_pattern w x y z (ends_closed w x y z behind is))

-- what a walk that finds records says of its bytes

pub record IsSplit (file : List ℕ) (records : List (List ℕ)) : Type 0 where
  pub within : blocks_length records ≤ length file
  pub goes_on : (at : ℕ) (others : List ℕ) → walk 0 at (take (blocks_length records) file ++ others) ≡ with_records records (walk 0 (at + blocks_length records) others)
  pub ends : front (drop (blocks_length records) file) ≡ Ends

pub unjoined : (r : List ℕ) (others : Contents) (records : List (List ℕ)) → with_record r others ≡ Records records → (rest : List (List ℕ)) × (others ≡ Records rest) × (records ≡ r ∷ rest)
unjoined r others records is = grind (arith, common_steps)

split_first : (file r : List ℕ) (records : List (List ℕ)) → front file ≡ Whole r → IsSplit (drop (11 + length r) file) records → IsSplit file (r ∷ records)
split_first file r records is later =
    let n = 11 + length r in
    let k = blocks_length records in
    let whole = is_whole file r is in
    let long : length (take n file) ≡ n = length-take-le n file whole.within in
    record {
      within = omega (arith, later.within, whole.within, ap length (take-append-drop n file), length-append (take n file) (drop n file), long);
      goes_on = λ at others.
          let parts : take (n + k) file ++ others ≡ take n file ++ (take k (drop n file) ++ others) = ap (λ (l : List ℕ). l ++ others) (take_parts n k file) ∙ append_assoc (take n file) (take k (drop n file)) others in
          let rest = take k (drop n file) ++ others in
          let first = walk-whole (take n file ++ rest) r at (whole.stays rest) in
          let behind : drop n (take n file ++ rest) ≡ rest = drop_at (take n file) rest n long in
          let place : at + n + k ≡ at + (n + k) = omega arith in
          ap (walk 0 at) parts ∙ first ∙ ap (λ (l : List ℕ). with_record r (walk 0 (at + n) l)) behind
          ∙ ap (with_record r) (later.goes_on (at + n) others ∙ ap (λ (a : ℕ). with_records records (walk 0 a others)) place);
      ends = ap front (drop_parts n k file) ∙ later.ends;
    }

split_at : (records : List (List ℕ)) (at : ℕ) (file : List ℕ) (f : Front) → front file ≡ f → walk 0 at file ≡ Records records → IsSplit file records
split_at [] at file Ends is found = record { within = omega arith; goes_on = λ at others. (let e : at ≡ at + 0 = omega arith in ap (λ (a : ℕ). walk 0 a others) e); ends = is }
split_at (r ∷ records) at file Ends is found = let e = walk-ends file at is in absurd (cc)
split_at records at file Spoiled is found = let e = walk-spoiled file at is in absurd (cc)
split_at [] at file (Whole r) is found = search (rules, unjoined, walk-whole)
split_at (s ∷ records) at file (Whole r) is found =
    let rest = unjoined r (walk 0 (at + (11 + length r)) (drop (11 + length r) file)) (s ∷ records) (sym (walk-whole file r at is) ∙ found) in
    let e = rest.2 in
    let first : s ≡ r = cc in
    let others : records ≡ rest.0 = cc in
    let later = split_at records (at + (11 + length r)) (drop (11 + length r) file) (front (drop (11 + length r) file)) refl (rest.1 ∙ ap Records (sym others)) in
    subst (λ (x : List ℕ). IsSplit file (x ∷ records)) (sym first) (split_first file r records is later)

-- and of a whole file

pub record IsFile (file : List ℕ) (records : List (List ℕ)) : Type 0 where
  pub within : records_end records ≤ length file
  pub room : records_end records + 4 ≤ length file
  pub goes_on : (others : List ℕ) → contents (take (records_end records) file ++ others) ≡ with_records records (walk 0 (records_end records) others)
  pub ends : front (drop (records_end records) file) ≡ Ends

journal_choice : (b : Bool) (x : Contents) (records : List (List ℕ)) → (if b then x else NotAJournal) ≡ Records records → (b ≡ true) × (x ≡ Records records)
journal_choice b x records is = grind (arith, common_steps)

pub is_file : (file : List ℕ) (records : List (List ℕ)) → contents file ≡ Records records → IsFile file records
is_file file records is =
    let chosen = journal_choice (starts_with nat_eq file magic) (walk 0 8 (drop 8 file)) records is in
    let begins : magic ≡ take 8 file = (slice_eq-Decides Decides-eqb magic (take 8 file) (starts_with nat_eq file magic) refl).0 chosen.0 in
    let parts = split_at records 8 (drop 8 file) (front (drop 8 file)) refl chosen.1 in
    let k = blocks_length records in
    let long : length file ≡ 8 + length (drop 8 file) = omega (arith, ap length begins, ap length (take-append-drop 8 file), length-append (take 8 file) (drop 8 file)) in
    record {
      within = omega (arith, parts.within, long);
      room = omega (arith, parts.within, long, (latch_there (drop k (drop 8 file)) parts.ends).0, length-drop k (drop 8 file));
      goes_on = λ others.
          let cut : take (8 + k) file ++ others ≡ magic ++ (take k (drop 8 file) ++ others) =
          ap (λ (l : List ℕ). l ++ others) (take_parts 8 k file) ∙ append_assoc (take 8 file) (take k (drop 8 file)) others ∙ ap (λ (l : List ℕ). l ++ (take k (drop 8 file) ++ others)) (sym begins) in
          ap contents cut ∙ parts.goes_on 8 others;
      ends = ap front (drop_parts 8 k file) ∙ parts.ends;
    }

pub with_records-Damaged : (records : List (List ℕ)) (at : ℕ) → with_records records (Damaged at) ≡ Damaged at
with_records-Damaged [] at = refl
with_records-Damaged (r ∷ records) at = ap (with_record r) (with_records-Damaged records at)

pub with_records-Records : (records others : List (List ℕ)) → with_records records (Records others) ≡ Records (records ++ others)
with_records-Records [] others = refl
with_records-Records (r ∷ records) others = ap (with_record r) (with_records-Records records others)

-- an end after the records adds no record
pub ended : (records : List (List ℕ)) (at : ℕ) (others : List ℕ) → front others ≡ Ends → with_records records (walk 0 at others) ≡ Records records
ended records at others is = ap (with_records records) (walk-ends others at is) ∙ with_records-Records records [] ∙ ap Records (append-nil records)

-- records that a file begins with begin with the first of them

walk_front : (a b : List (List ℕ)) (at : ℕ) (bytes : List ℕ) → walk 0 at bytes ≡ Records (a ++ b) → walk 0 at (take (blocks_length a) bytes ++ latch_closed) ≡ Records a
walk_front [] b at bytes is = refl
walk_front (r ∷ a) b at bytes is = by (walk_front a b) (front bytes) refl
  where
    by : ((at : ℕ) (bytes : List ℕ) → walk 0 at bytes ≡ Records (a ++ b) → walk 0 at (take (blocks_length a) bytes ++ latch_closed) ≡ Records a)
        → (f : Front) → front bytes ≡ f → walk 0 at (take (blocks_length (r ∷ a)) bytes ++ latch_closed) ≡ Records (r ∷ a)
    by behind Ends e = let clash = sym (walk-ends bytes at e) ∙ is in absurd (cc)
    by behind Spoiled e = let clash = sym (walk-spoiled bytes at e) ∙ is in absurd (cc)
    by behind (Whole s) e =
        let n = 11 + length s in
        let k = blocks_length a in
        let later = unjoined s (walk 0 (at + n) (drop n bytes)) (r ∷ (a ++ b)) (sym (walk-whole bytes s at e) ∙ is) in
        let split = later.2 in
        let first : r ≡ s = cc in
        let others : a ++ b ≡ later.0 = cc in
        let rest = take k (drop n bytes) ++ latch_closed in
        let whole = is_whole bytes s e in
        let long : length (take n bytes) ≡ n = length-take-le n bytes whole.within in
        let far : blocks_length (r ∷ a) ≡ n + k = ap (λ (x : List ℕ). 11 + length x + k) first in
        ap (λ (m : ℕ). walk 0 at (take m bytes ++ latch_closed)) far
        ∙ ap (walk 0 at) (ap (λ (l : List ℕ). l ++ latch_closed) (take_parts n k bytes) ∙ append_assoc (take n bytes) (take k (drop n bytes)) latch_closed)
        ∙ walk-whole (take n bytes ++ rest) s at (whole.stays rest)
        ∙ ap (λ (l : List ℕ). with_record s (walk 0 (at + n) l)) (drop_at (take n bytes) rest n long)
        ∙ ap (with_record s) (behind (at + n) (drop n bytes) (later.1 ∙ ap Records (sym others)))
        ∙ ap (λ (x : List ℕ). Records (x ∷ a)) (sym first)

blocks_within : (a b : List (List ℕ)) → blocks_length a ≤ blocks_length (a ++ b)
blocks_within [] b = omega arith
blocks_within (r ∷ a) b = omega (arith, blocks_within a b)

-- if only the first records of a file are closed, the file has exactly these
front_closed : (a b : List (List ℕ)) (file : List ℕ) → contents file ≡ Records (a ++ b) → contents (take (records_end a) file ++ latch_closed) ≡ Records a
front_closed a b file reads =
    let k = blocks_length a in
    let chosen = journal_choice (starts_with nat_eq file magic) (walk 0 8 (drop 8 file)) (a ++ b) reads in
    let is : magic ≡ take 8 file = (slice_eq-Decides Decides-eqb magic (take 8 file) (starts_with nat_eq file magic) refl).0 chosen.0 in
    let cut : take (8 + k) file ++ latch_closed ≡ magic ++ (take k (drop 8 file) ++ latch_closed) =
    ap (λ (l : List ℕ). l ++ latch_closed) (take_parts 8 k file ∙ ap (λ (l : List ℕ). l ++ take k (drop 8 file)) (sym is)) ∙ append_assoc magic (take k (drop 8 file)) latch_closed in
    ap contents cut ∙ walk_front a b 8 (drop 8 file) chosen.1

-- what a file begins with is all there
pub begins_long : (records : List (List ℕ)) (file : List ℕ) → contents (take (records_end records) file ++ latch_closed) ≡ Records records → records_end records ≤ length file
begins_long records file begins =
    let e = records_end records in
    omega (arith, (is_file (take e file ++ latch_closed) records begins).room, length-append (take e file) latch_closed, length-take e file)

pub begins_shorter : (a b : List (List ℕ)) (file : List ℕ) → contents (take (records_end (a ++ b)) file ++ latch_closed) ≡ Records (a ++ b) → contents (take (records_end a) file ++ latch_closed) ≡ Records a
begins_shorter a b file begins =
    let e = records_end (a ++ b) in
    let n = records_end a in
    let le : n ≤ e = omega (arith, blocks_within a b) in
    let long : length (take e file) ≡ e = length-take-le e file (begins_long (a ++ b) file begins) in
    let same : take n (take e file ++ latch_closed) ≡ take n file =
    sym (take-take n e (take e file ++ latch_closed) le) ∙ ap (take n) (take_at (take e file) latch_closed e long) ∙ take-take n e file le in
    ap (λ (l : List ℕ). contents (l ++ latch_closed)) (sym same) ∙ front_closed a b (take e file ++ latch_closed) begins

-- and a file begins with all of its records
pub whole_begins : (records : List (List ℕ)) (file : List ℕ) → contents file ≡ Records records → contents (take (records_end records) file ++ latch_closed) ≡ Records records
whole_begins records file is = (is_file file records is).goes_on latch_closed ∙ ended records (records_end records) latch_closed refl

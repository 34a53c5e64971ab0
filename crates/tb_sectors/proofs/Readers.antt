-- A sector is taken.
use Rattle.std.proofs.Common.{◌≡◌, ℕ, zero, suc, ◌+◌, ◌*◌, ◌/◌, ◌≤◌, ◌<◌, ap, Bool, true, false, List, [], ◌∷◌, ◌++◌, length, take, drop, replicate, refl, sym, ◌∙◌, subst, arith, length-drop}
use Rattle.std.specs.Prelude.{Option, Some, None, nat_le, nat_lt, not, ◌&&◌, ◌||◌, if◌then◌else◌}
use Rattle.std.proofs.lemmas.Bool.Decides.{nat_tests}
use Rattle.std.proofs.lemmas.List.{take-append-le}
use Rattle.std.proofs.Math.Seq.{take-append-add}
use Rattle.tb_sectors.specs.Sectors.{sector}
use Rattle.tb_sectors.specs.Stamped.{Stamped, Taken, follows, with_sector, begins_in, Verdict, Ends, Damaged, read_on, stamped, sectors_from, file_sectors}
use Rattle.tb_sectors.specs.Reading.{TakesSector, IsReadOn}
use Rattle.tb_sectors.specs.private.Outcomes.{drop_parts}

pub never : {P : Type 0} → true ≡ false → P
never e = absurd (contradiction e)
  where
    contradiction : true ≡ false → ⊥
    contradiction e = cc

-- the bytes of whole batches, as the code counts them
whole_bytes : (b : Bool) (old bytes : List ℕ) (whole ends : ℕ) → whole ≤ length old
    → take (if b then length old + ends else whole) (old ++ bytes) ≡ (if b then old ++ take ends bytes else take whole old)
whole_bytes true old bytes whole ends le = take-append-add old bytes ends
whole_bytes false old bytes whole ends le = take-append-le whole old bytes le

pub sector_taken : (count number next : ℕ) (old new bytes : List ℕ) (whole ends before w : ℕ) (closed closing : Bool) (s : Stamped) → whole ≤ length old → new ≡ old ++ bytes
    → bytes ≡ s.bytes → next ≡ s.number → ends ≡ s.ends → closing ≡ s.closed → before ≡ length old → w ≡ (if nat_le ends (length bytes) then before + ends else whole)
    → record { count = count + 1; number = next; whole = take w new; all = new; closed = closing } ≡ with_sector (record { count = count; number = number; whole = take whole old; all = old; closed = closed }) s
sector_taken count number next old new bytes whole ends before w closed closing s le is b n e c at is_whole =
    let count_of : w ≡ (if nat_le s.ends (length s.bytes) then length old + s.ends else whole)
    = is_whole ∙ ap (λ (x : ℕ). if nat_le ends (length bytes) then x + ends else whole) at
    ∙ ap (λ (x : ℕ). if nat_le x (length bytes) then length old + x else whole) e
    ∙ ap (λ (l : List ℕ). if nat_le s.ends (length l) then length old + s.ends else whole) b in
    let all : new ≡ old ++ s.bytes = is ∙ ap (λ (l : List ℕ). old ++ l) b in
    ap (λ (x : Bool). record { count = count + 1; number = next; whole = take w new; all = new; closed = x }) c
    ∙ ap (λ (x : ℕ). record { count = count + 1; number = x; whole = take w new; all = new; closed = s.closed }) n
    ∙ ap (λ (l : List ℕ). record { count = count + 1; number = s.number; whole = take w l; all = l; closed = s.closed }) all
    ∙ ap (λ (l : List ℕ). record { count = count + 1; number = s.number; whole = l; all = old ++ s.bytes; closed = s.closed })
    (ap (λ (x : ℕ). take x (old ++ s.bytes)) count_of ∙ whole_bytes (nat_le s.ends (length s.bytes)) old s.bytes whole s.ends le)

-- the sectors of a file, one after another

pub shifted : (j k : ℕ) (file : List ℕ) → sector (j + k) file ≡ sector k (drop (512 * j) file)
shifted j k file =
    ap (λ (l : List ℕ). take 512 (l ++ replicate 512 0)) (ap (λ (n : ℕ). drop n file) (omega arith) ∙ drop_parts (512 * j) (512 * k) file)

later_sectors : (k count : ℕ) (file : List ℕ) → sectors_from (k + 1) count file ≡ sectors_from k count (drop 512 file)
later_sectors k zero file = refl
later_sectors k (suc count) file =
    ap (λ (s : List ℕ). stamped s ∷ sectors_from (k + 1 + 1) count file) (ap (λ (n : ℕ). sector n file) (omega arith) ∙ shifted 1 k file)
    ∙ ap (λ (l : List Stamped). stamped (sector k (drop 512 file)) ∷ l) (later_sectors (k + 1) count file)

first_sector : (file : List ℕ) → 512 ≤ length file → sector 0 file ≡ take 512 file
first_sector file long = take-append-le 512 file (replicate 512 0) long

pub next_sector : (file : List ℕ) → 512 ≤ length file → file_sectors file ≡ stamped (take 512 file) ∷ file_sectors (drop 512 file)
next_sector file long =
    let count = (length (drop 512 file) + 511) / 512 in
    let more : (length file + 511) / 512 ≡ suc count = omega (arith, length-drop 512 file) in
    ap (λ (n : ℕ). sectors_from 0 n file) more
    ∙ ap (λ (s : List ℕ). stamped s ∷ sectors_from (0 + 1) count file) (first_sector file long)
    ∙ ap (λ (l : List Stamped). stamped (take 512 file) ∷ l) (later_sectors 0 count file)

pub no_sector : (file : List ℕ) → length file ≡ 0 → file_sectors file ≡ []
no_sector [] none = refl
no_sector (x ∷ file) none = absurd (omega arith)

-- what a test that holds says of its parts

both_hold : (c f : Bool) → true ≡ (not c && f) → (c ≡ false) × (f ≡ true)
both_hold true f e = never e
both_hold false f e = (refl, sym e)

open_fails : (c f : Bool) → c ≡ false → false ≡ (not c && f) → f ≡ false
open_fails true f ready e = never ready
open_fails false f ready e = sym e

-- a sector that follows is taken, and the others are left
pub goes_further : (t u v : Taken) (file sector rest : List ℕ) (all : List ℕ) → 512 ≤ length file → sector ≡ take 512 file → rest ≡ drop 512 file → true ≡ (not t.closed && follows t (stamped sector))
    → u ≡ with_sector t (stamped sector) → read_on t (file_sectors file) ≡ read_on v (file_sectors all) → read_on u (file_sectors rest) ≡ read_on v (file_sectors all)
goes_further t u v file sector rest all long is more on taken before =
    let s = stamped sector in
    let parts = both_hold t.closed (follows t s) on in
    ap (λ (x : Taken). read_on x (file_sectors rest)) taken
    ∙ sym (ap (λ (c : Bool). if c then Ends t else if follows t s then read_on (with_sector t s) (file_sectors rest) else if begins_in (s ∷ file_sectors rest) then Damaged t.count else Ends t) parts.0
    ∙ ap (λ (b : Bool). if b then read_on (with_sector t s) (file_sectors rest) else if begins_in (s ∷ file_sectors rest) then Damaged t.count else Ends t) parts.1)
    ∙ ap (λ (l : List ℕ). read_on t (stamped l ∷ file_sectors rest)) is
    ∙ ap (λ (l : List ℕ). read_on t (stamped (take 512 file) ∷ file_sectors l)) more
    ∙ ap (read_on t) (sym (next_sector file long)) ∙ before

-- one that does not follow ends the journal, or is damage
pub goes_no_further : (t : Taken) (file sector : List ℕ) → t.closed ≡ false → 512 ≤ length file → sector ≡ take 512 file → false ≡ (not t.closed && follows t (stamped sector))
    → read_on t (file_sectors file) ≡ (if begins_in (file_sectors file) then Damaged t.count else Ends t)
goes_no_further t file sector ready long is off =
    let s = stamped (take 512 file) in
    let rest = file_sectors (drop 512 file) in
    ap (read_on t) (next_sector file long)
    ∙ ap (λ (c : Bool). if c then Ends t else if follows t s then read_on (with_sector t s) rest else if begins_in (s ∷ rest) then Damaged t.count else Ends t) ready
    ∙ ap (λ (b : Bool). if b then read_on (with_sector t s) rest else if begins_in (s ∷ rest) then Damaged t.count else Ends t)
    (ap (λ (l : List ℕ). follows t (stamped l)) (sym is) ∙ open_fails t.closed (follows t (stamped sector)) ready off)
    ∙ ap (λ (l : List Stamped). if begins_in l then Damaged t.count else Ends t) (sym (next_sector file long))

pub begins_here : (file sector : List ℕ) (begun : ℕ) → 512 ≤ length file → sector ≡ take 512 file → begun ≡ (stamped sector).begun → 0 < begun → begins_in (file_sectors file) ≡ true
begins_here file sector begun long is n some =
    ap begins_in (next_sector file long) ∙ ap (λ (l : List ℕ). nat_lt 0 (stamped l).begun || begins_in (file_sectors (drop 512 file))) (sym is)
    ∙ ap (λ (k : ℕ). nat_lt 0 k || begins_in (file_sectors (drop 512 file))) (sym n) ∙ ap (λ (b : Bool). b || begins_in (file_sectors (drop 512 file))) (above_zero begun some)
  where
    above_zero : (k : ℕ) → 0 < k → nat_lt 0 k ≡ true
    above_zero k some = grind (arith, nat_tests)

pub begins_later : (file sector rest : List ℕ) (begun : ℕ) → 512 ≤ length file → sector ≡ take 512 file → rest ≡ drop 512 file → begun ≡ (stamped sector).begun → begun ≤ 0
    → begins_in (file_sectors rest) ≡ begins_in (file_sectors file)
begins_later file sector rest begun long is more n none =
    ap (λ (l : List ℕ). begins_in (file_sectors l)) more
    ∙ sym (ap begins_in (next_sector file long) ∙ ap (λ (l : List ℕ). nat_lt 0 (stamped l).begun || begins_in (file_sectors (drop 512 file))) (sym is)
    ∙ ap (λ (k : ℕ). nat_lt 0 k || begins_in (file_sectors (drop 512 file))) (sym n ∙ zero_is begun none))
  where
    zero_is : (k : ℕ) → k ≤ 0 → k ≡ 0
    zero_is k none = omega arith

-- after a closed latch nothing is read
pub closed_ends : (t : Taken) (left : List Stamped) → t.closed ≡ true → read_on t left ≡ Ends t
closed_ends t [] closed = refl
closed_ends t (s ∷ rest) closed =
    ap (λ (c : Bool). if c then Ends t else if follows t s then read_on (with_sector t s) rest else if begins_in (s ∷ rest) then Damaged t.count else Ends t) closed

-- the steps of a reader over many sectors

pub stopped : (t u v : Taken) (file sector all : List ℕ) (next : Bool) (result : Option ℕ) → t.closed ≡ false → 512 ≤ length file → sector ≡ take 512 file → next ≡ false
    → TakesSector next (stamped sector) t u → result ≡ (if begins_in (file_sectors file) then Some u.count else None)
    → read_on t (file_sectors file) ≡ read_on v (file_sectors all) → IsReadOn result (read_on v (file_sectors all)) u
stopped t u v file sector all next result ready long is off takes found before =
    let same : u ≡ t = takes.other off in
    let verdict = sym before ∙ goes_no_further t file sector ready long is (sym off ∙ takes.follows) in
    subst (λ (r : Option ℕ). IsReadOn r (read_on v (file_sectors all)) u) (sym found)
    (subst (λ (w : Verdict). IsReadOn (if begins_in (file_sectors file) then Some u.count else None) w u) (sym verdict) (by_test (begins_in (file_sectors file)) same))
  where
    by_test : (b : Bool) → u ≡ t → IsReadOn (if b then Some u.count else None) (if b then Damaged t.count else Ends t) u
    by_test true same = ap (λ (x : Taken). Damaged x.count) (sym same)
    by_test false same = ap Ends (sym same)

pub went_on : (t u v : Taken) (file sector rest all : List ℕ) (next : Bool) → 512 ≤ length file → sector ≡ take 512 file → rest ≡ drop 512 file → next ≡ true
    → TakesSector next (stamped sector) t u → read_on t (file_sectors file) ≡ read_on v (file_sectors all) → read_on u (file_sectors rest) ≡ read_on v (file_sectors all)
went_on t u v file sector rest all next long is more on takes before =
    goes_further t u v file sector rest all long is more (sym on ∙ takes.follows) (takes.taken on) before

pub one_counted : (t u : Taken) (s : Stamped) (next : Bool) → next ≡ true → TakesSector next s t u → u.count ≡ t.count + 1
one_counted t u s next on takes = ap (λ (x : Taken). x.count) (takes.taken on)

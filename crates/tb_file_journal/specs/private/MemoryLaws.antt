-- The proofs of the laws that `Device` requires of a file in memory. `rt` takes the proof of a trait's law from specs/ only.
use Rattle.std.specs.Prelude.{◌≡◌, ℕ, zero, suc, ◌+◌, ◌-◌, ◌≤◌, ◌&&◌, nat_le, Bool, true, false, List, [], ◌∷◌, ◌++◌, length, take, drop, reverse, refl, if◌then◌else◌}
use Rattle.std.proofs.Common.{arith, subst, sym, ◌∙◌, ap, length-append, length-drop, length-take}
use Rattle.std.proofs.lemmas.List.{take_at, drop_at, take_all, take_min, length-take-le}
use Rattle.std.proofs.lemmas.Bool.Decides.{nat_tests}
use Rattle.tb_file_journal.specs.Device.{Torn, Cut, overwritten}
use Rattle.tb_file_journal.specs.Torn.{LeavesTorn, shown_by, shown_after}
use Rattle.tb_file_journal.specs.Memory.{LeftBy, memory_disk, memory_holds}
use Rattle.tb_file_journal.specs.declared.memory.Memory.{Memory}
use Rattle.tb_file_journal.specs.declared.memory.Call.{Call}
use Rattle.tb_file_journal.specs.declared.memory.Call.TheVariants as variants

drop_nil : (k : ℕ) → [] ≡ drop {A = ℕ} k []
drop_nil zero = refl
drop_nil (suc k) = refl

pub drop_parts : (m n : ℕ) (l : List ℕ) → drop (m + n) l ≡ drop n (drop m l)
drop_parts zero n l = ap (λ (k : ℕ). drop k l) (omega arith)
drop_parts (suc m) n [] = ap (λ (k : ℕ). drop k []) (let e : suc m + n ≡ suc (m + n) = omega arith in e) ∙ drop_nil n
drop_parts (suc m) n (x ∷ l) = ap (λ (k : ℕ). drop k (x ∷ l)) (let e : suc m + n ≡ suc (m + n) = omega arith in e) ∙ drop_parts m n l

-- some of the bytes that are written, or all
pub torn_part : (at n : ℕ) (bytes file : List ℕ) → at ≤ length file → length bytes ≤ n
    → Torn at n file (overwritten file at bytes)
torn_part at n bytes file within fits =
    let k = length bytes in
    let m = n - k in
    let behind = drop (at + k) file in
    let begins : length (take at file) ≡ at = length-take-le at file within in
    let far : at + n ≡ at + k + m = omega arith in
    record {
      before = take_at (take at file) (bytes ++ behind) at begins;
      after = ap (λ (x : ℕ). drop x (take at file ++ (bytes ++ behind))) far ∙ drop_parts (at + k) m (take at file ++ (bytes ++ behind))
          ∙ ap (drop m) (drop_parts at k (take at file ++ (bytes ++ behind)) ∙ ap (drop k) (drop_at (take at file) (bytes ++ behind) at begins) ∙ drop_at bytes behind k refl)
          ∙ sym (ap (λ (x : ℕ). drop x file) far ∙ drop_parts (at + k) m file);
      no_shorter = omega (arith, within, begins, length-append (take at file) (bytes ++ behind), length-append bytes behind, length-drop (at + k) file);
      no_longer = omega (arith, within, fits, begins, length-append (take at file) (bytes ++ behind), length-append bytes behind, length-drop (at + k) file);
    }

pub torn_same : (at n : ℕ) (file : List ℕ) → Torn at n file file
torn_same at n file = record { before = refl; after = refl; no_shorter = omega arith; no_longer = omega arith }

pub cut_same : (n : ℕ) (file : List ℕ) → Cut n file file
cut_same n file = record { no_shorter = omega arith; front = take_all (length file) file (omega arith) }

pub cut_whole : (n : ℕ) (file : List ℕ) → Cut n file (take n file)
cut_whole n file = record {
  no_shorter = omega (arith, length-take n file);
  front = ap (λ (k : ℕ). take k file) (length-take n file) ∙ take_min n file;
}

at_most_by_test : (at n : ℕ) → nat_le at n ≡ true → at ≤ n
at_most_by_test at n is = grind (arith, nat_tests)

torn_choice : (at n : ℕ) (bytes old : List ℕ) (shown room : Bool) → length bytes ≤ n → nat_le at (length old) ≡ room
    → Torn at n old (if shown && room then overwritten old at bytes else old)
torn_choice at n bytes old true true short is = torn_part at n bytes old (at_most_by_test at (length old) is) short
torn_choice at n bytes old true false short is = torn_same at n old
torn_choice at n bytes old false room short is = torn_same at n old

cut_choice : (n : ℕ) (old : List ℕ) (shown : Bool) → Cut n old (if shown then take n old else old)
cut_choice n old true = cut_whole n old
cut_choice n old false = cut_same n old

pub torn_shown : (call : Call) (old : List ℕ) → LeavesTorn old call (shown_by call old)
torn_shown (variants.Write at bytes shown) old = torn_choice at (length bytes.items) bytes.items old shown (nat_le at (length old)) (omega arith) refl
torn_shown (variants.Cut len shown) old = cut_choice len old shown
torn_shown (variants.Sync file) old = refl

-- what a read returns is one of the outcomes
leaves_shown : (first : List ℕ) (calls : List Call) → LeftBy first calls (shown_after first calls)
leaves_shown first [] = refl
leaves_shown first (call ∷ earlier) = (shown_after first earlier, leaves_shown first earlier, torn_shown call (shown_after first earlier))

pub memory_holds_seen : (file : Memory) → Unit {0} → memory_holds file (memory_disk file).seen
memory_holds_seen file t = refl

pub memory_stays : (file : Memory) → Unit {0} → (memory_disk file).may_leave (memory_disk file).seen
memory_stays file t = subst (LeftBy file.first.items (reverse file.calls.items)) (sym file.shown) (leaves_shown file.first.items (reverse file.calls.items))

pub memory_counts_now : (file : Memory) (t : ℕ) (c : List ℕ) → t ≤ (memory_disk file).moment
    → (memory_disk file).may_leave c → (memory_disk file).left_since t c
memory_counts_now file t c le now =
    let calls = file.calls.items in
    let whole : take (length calls) calls ≡ calls = take_all (length calls) calls (omega arith) in
    (length calls, le, omega arith, subst (λ (l : List Call). LeftBy file.first.items (reverse l) c) (sym whole) now)

pub memory_only_now : (file : Memory) (c : List ℕ)
    → (memory_disk file).left_since (memory_disk file).moment c → (memory_disk file).may_leave c
memory_only_now file c left =
    let calls = file.calls.items in
    let whole : take left.0 calls ≡ calls = take_all left.0 calls left.1 in
    subst (λ (l : List Call). LeftBy file.first.items (reverse l) c) whole left.3

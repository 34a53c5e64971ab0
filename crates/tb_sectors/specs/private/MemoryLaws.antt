-- The proofs of the laws that `SectorFile` and `RangeFile` require of files in memory. `rt` takes the proof of a trait's law from specs/ only.
use Rattle.std.specs.Prelude.{◌≡◌, ℕ, ◌≤◌, nat_le, ◌&&◌, Bool, true, false, if◌then◌else◌, List, [], ◌∷◌, length, take, reverse, refl}
use Rattle.std.proofs.Common.{arith, subst, sym}
use Rattle.std.proofs.lemmas.List.{take_all}
use Rattle.std.proofs.lemmas.Bool.Decides.{nat_tests}
use Rattle.tb_sectors.specs.Sectors.{IsMixed, overwritten}
use Rattle.tb_sectors.specs.Ranges.{IsTorn}
use Rattle.tb_sectors.specs.private.Outcomes.{mixed_old, mixed_new, torn_none, torn_whole}
use Rattle.tb_sectors.specs.Calls.{shown_by, shown_after, Leaves}
use Rattle.tb_sectors.specs.Memory.{LeftBy, disk_of, memory_disk, ranges_disk}
use Rattle.tb_sectors.specs.declared.memory.MemorySectors.{MemorySectors}
use Rattle.tb_sectors.specs.declared.memory.MemoryRanges.{MemoryRanges}
use Rattle.tb_sectors.specs.declared.memory.Call.{Call}
use Rattle.tb_sectors.specs.declared.memory.Call.TheVariants as variants

mixed_choice : (old new : List ℕ) (b : Bool) → IsMixed old new (if b then new else old)
mixed_choice old new true = mixed_new old new
mixed_choice old new false = mixed_old old new

at_most_by_test : (at n : ℕ) → nat_le at n ≡ true → at ≤ n
at_most_by_test at n is = grind (arith, nat_tests)

torn_choice : (at : ℕ) (bytes old : List ℕ) (shown room : Bool) → nat_le at (length old) ≡ room
    → IsTorn at (length bytes) old (if shown && room then overwritten old at bytes else old)
torn_choice at bytes old true true is = torn_whole at bytes old (at_most_by_test at (length old) is)
torn_choice at bytes old true false is = torn_none at (length bytes) old
torn_choice at bytes old false room is = torn_none at (length bytes) old

-- what a read returns is one of the outcomes
call_shown : (sectors : Bool) (seen : List ℕ) (call : Call) → Leaves sectors seen call seen (shown_by call seen)
call_shown true seen (variants.Write at bytes shown) = mixed_choice seen (overwritten seen at bytes.items) (shown && nat_le at (length seen))
call_shown false seen (variants.Write at bytes shown) = torn_choice at bytes.items seen shown (nat_le at (length seen)) refl
call_shown true seen variants.Sync = refl
call_shown false seen variants.Sync = refl

leaves_shown : (sectors : Bool) (first : List ℕ) (calls : List Call) → LeftBy sectors first calls (shown_after first calls)
leaves_shown sectors first [] = refl
leaves_shown sectors first (call ∷ earlier) = (shown_after first earlier, leaves_shown sectors first earlier, call_shown sectors (shown_after first earlier) call)

stays : (sectors : Bool) (file : MemorySectors) → (disk_of sectors file).may_leave (disk_of sectors file).seen
stays sectors file = subst (LeftBy sectors file.first.items (reverse file.calls.items)) (sym file.shown) (leaves_shown sectors file.first.items (reverse file.calls.items))

counts_now : (sectors : Bool) (file : MemorySectors) (t : ℕ) (c : List ℕ) → t ≤ (disk_of sectors file).moment
    → (disk_of sectors file).may_leave c → (disk_of sectors file).left_since t c
counts_now sectors file t c le now =
    let calls = file.calls.items in
    let whole : take (length calls) calls ≡ calls = take_all (length calls) calls (omega arith) in
    (length calls, le, omega arith, subst (λ (l : List Call). LeftBy sectors file.first.items (reverse l) c) (sym whole) now)

only_now : (sectors : Bool) (file : MemorySectors) (c : List ℕ)
    → (disk_of sectors file).left_since (disk_of sectors file).moment c → (disk_of sectors file).may_leave c
only_now sectors file c left =
    let calls = file.calls.items in
    let whole : take left.0 calls ≡ calls = take_all left.0 calls left.1 in
    subst (λ (l : List Call). LeftBy sectors file.first.items (reverse l) c) whole left.3

pub memory_stays : (file : MemorySectors) → (memory_disk file).may_leave (memory_disk file).seen
memory_stays file = stays true file

pub memory_counts_now : (file : MemorySectors) (t : ℕ) (c : List ℕ) → t ≤ (memory_disk file).moment
    → (memory_disk file).may_leave c → (memory_disk file).left_since t c
memory_counts_now file t c le now = counts_now true file t c le now

pub memory_only_now : (file : MemorySectors) (c : List ℕ) → (memory_disk file).left_since (memory_disk file).moment c → (memory_disk file).may_leave c
memory_only_now file c left = only_now true file c left

pub ranges_stays : (ranges : MemoryRanges) → (ranges_disk ranges).may_leave (ranges_disk ranges).seen
ranges_stays ranges = stays false ranges.file

pub ranges_counts_now : (ranges : MemoryRanges) (t : ℕ) (c : List ℕ) → t ≤ (ranges_disk ranges).moment
    → (ranges_disk ranges).may_leave c → (ranges_disk ranges).left_since t c
ranges_counts_now ranges t c le now = counts_now false ranges.file t c le now

pub ranges_only_now : (ranges : MemoryRanges) (c : List ℕ) → (ranges_disk ranges).left_since (ranges_disk ranges).moment c → (ranges_disk ranges).may_leave c
ranges_only_now ranges c left = only_now false ranges.file c left

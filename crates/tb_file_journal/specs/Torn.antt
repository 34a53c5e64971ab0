-- What one call on a file in memory adds to what a crash may leave, and what a read returns after it.
use Rattle.std.specs.Prelude.{◌≡◌, ℕ, ◌+◌, ◌&&◌, nat_le, List, [], ◌∷◌, length, take, if◌then◌else◌}
use Rattle.tb_file_journal.specs.Device.{Torn, Cut, overwritten}
use Rattle.tb_file_journal.specs.declared.memory.Call.{Call}
use Rattle.tb_file_journal.specs.declared.memory.Call.TheVariants as variants

-- a write and a cut may be torn, and after a sync the file is as it was then
abbrev pub LeavesTorn : List ℕ → Call → List ℕ → Type 0
LeavesTorn old (variants.Write at bytes shown) left = Torn at (length bytes.items) old left
LeavesTorn old (variants.Cut len shown) left = Cut len old left
LeavesTorn old (variants.Sync file) left = left ≡ file.items

-- what a crash leaves of a write of n bytes if these bytes reach the disk, as many of them as fit; a write beyond the end leaves nothing
abbrev pub torn_at : List ℕ → ℕ → ℕ → List ℕ → List ℕ
torn_at torn at n old = if nat_le at (length old) then overwritten old at (take n torn) else old

-- what a crash leaves with one more call, if these bytes of a write are on the disk, and as many bytes as these are left past the length of a cut
abbrev pub torn_by : List ℕ → Call → List ℕ → List ℕ
torn_by torn (variants.Write at bytes shown) old = torn_at torn at (length bytes.items) old
torn_by torn (variants.Cut len shown) old = take (len + length torn) old
torn_by torn (variants.Sync file) old = file.items

-- what it leaves after these calls, the newest first
abbrev pub torn_after : List ℕ → List ℕ → List Call → List ℕ
torn_after torn first [] = first
torn_after torn first (call ∷ earlier) = torn_by torn call (torn_after torn first earlier)

-- what a read returned before, with one more call: a failed call changes nothing
abbrev pub shown_by : Call → List ℕ → List ℕ
shown_by (variants.Write at bytes shown) old = if shown && nat_le at (length old) then overwritten old at bytes.items else old
shown_by (variants.Cut len shown) old = if shown then take len old else old
shown_by (variants.Sync file) old = file.items

-- what a read returns after these calls, the newest first
abbrev pub shown_after : List ℕ → List Call → List ℕ
shown_after first [] = first
shown_after first (call ∷ earlier) = shown_by call (shown_after first earlier)

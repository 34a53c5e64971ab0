-- What one call on a file in memory adds to what a crash may leave, and what a read returns after it.
use Rattle.std.specs.Prelude.{◌≡◌, ℕ, nat_le, ◌&&◌, Bool, true, false, if◌then◌else◌, List, [], ◌∷◌, length}
use Rattle.tb_sectors.specs.Sectors.{IsMixed, overwritten}
use Rattle.tb_sectors.specs.Ranges.{IsTorn}
use Rattle.tb_sectors.specs.declared.memory.Call.{Call}
use Rattle.tb_sectors.specs.declared.memory.Call.TheVariants as variants

-- what a read returned before, with one more call: a failed write changes nothing
abbrev pub shown_by : Call → List ℕ → List ℕ
shown_by (variants.Write at bytes shown) old = if shown && nat_le at (length old) then overwritten old at bytes.items else old
shown_by variants.Sync old = old

-- what a read returns after these calls, the newest first
abbrev pub shown_after : List ℕ → List Call → List ℕ
shown_after first [] = first
shown_after first (call ∷ earlier) = shown_by call (shown_after first earlier)

-- what one more call may leave of a file that a crash left, if a read returned this one before. Of a write, whether it failed or not, each sector as it
-- was or as it is written, if the disk keeps sectors whole, and any bytes in its range otherwise. A sync keeps what a read returns
abbrev pub Leaves : Bool → List ℕ → Call → List ℕ → List ℕ → Type 0
Leaves true seen (variants.Write at bytes shown) old left = IsMixed old (overwritten seen at bytes.items) left
Leaves false seen (variants.Write at bytes shown) old left = IsTorn at (length bytes.items) old left
Leaves true seen variants.Sync old left = left ≡ seen
Leaves false seen variants.Sync old left = left ≡ seen

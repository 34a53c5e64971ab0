-- A disk of which nothing is assumed: what a write that a crash interrupts may leave.
use Rattle.std.specs.Prelude.{◌≡◌, ℕ, ◌+◌, ◌≤◌, max, List, length, take, drop, Result}
use Rattle.tb_sectors.specs.declared.devices.SectorFault.{SectorFault}
use Rattle.tb_sectors.specs.Sectors.{Disk, WritesBy}

-- after a write of n bytes that a crash interrupts: any bytes in the range and past the old end, the same elsewhere
pub record IsTorn (at n : ℕ) (old left : List ℕ) : Type 0 where
  pub before : take at left ≡ take at old
  pub after : drop (at + n) left ≡ drop (at + n) old
  pub no_shorter : length old ≤ length left
  pub no_longer : length left ≤ max (length old) (at + n)

-- a write: until a sync, a crash may leave any bytes in its range
abbrev pub WritesRange : ℕ → List ℕ → Result (Unit {0}) SectorFault → Disk → Disk → Type 0
WritesRange at bytes result before after = WritesBy (IsTorn at (length bytes)) at bytes result before after

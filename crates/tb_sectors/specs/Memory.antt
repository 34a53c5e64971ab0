-- What a crash may leave of a file in memory, by the calls that were made.
use Rattle.std.specs.Prelude.{◌≡◌, ◌≢◌, ◌⊎◌, ℕ, ◌-◌, ◌≤◌, Bool, true, false, List, [], ◌∷◌, length, take, reverse, Result, OnOk, IfErr}
use Rattle.tb_sectors.specs.Sectors.{Disk}
use Rattle.tb_sectors.specs.Calls.{Leaves, shown_after}
use Rattle.tb_sectors.specs.declared.devices.SectorFault.{SectorFault}
use Rattle.tb_sectors.specs.declared.devices.SectorFault.TheVariants as faults
use Rattle.tb_sectors.specs.declared.memory.MemorySectors.{MemorySectors}
use Rattle.tb_sectors.specs.declared.memory.MemoryRanges.{MemoryRanges}
use Rattle.tb_sectors.specs.declared.memory.Call.{Call}

abbrev pub memory_bytes : MemorySectors → List ℕ
memory_bytes file = file.bytes.items

-- the writes and syncs so far
abbrev pub moments_of : MemorySectors → ℕ
moments_of file = length file.calls.items

-- what a crash may leave after these calls, the newest first, of a disk that keeps sectors whole or does not
abbrev pub LeftBy : Bool → List ℕ → List Call → List ℕ → Type 0
LeftBy sectors first [] left = left ≡ first
LeftBy sectors first (call ∷ earlier) left = (d : List ℕ) × LeftBy sectors first earlier d × Leaves sectors (shown_after first earlier) call d left

-- the disk of a file that held the first bytes, after these calls
abbrev pub disk_after : Bool → List ℕ → List Call → List ℕ → Bool → Disk
disk_after sectors first calls bytes sound = record {
  seen = bytes;
  may_leave = LeftBy sectors first (reverse calls);
  moment = length calls;
  left_since = λ t left. (k : ℕ) × (t ≤ k) × (k ≤ length calls) × LeftBy sectors first (reverse (take k calls)) left;
  sound = sound;
}

abbrev pub disk_of : Bool → MemorySectors → Disk
disk_of sectors file = disk_after sectors file.first.items file.calls.items file.bytes.items file.sound

abbrev pub memory_disk : MemorySectors → Disk
memory_disk file = disk_of true file

-- the same calls on a disk of which nothing is assumed
abbrev pub ranges_disk : MemoryRanges → Disk
ranges_disk ranges = disk_of false ranges.file

-- calls that fail

-- the number of the call, counted from now, that fails; 0 if no call will fail
abbrev pub fuse_of : MemorySectors → ℕ
fuse_of file = file.fuse

-- a call is one of those that are counted: in its turn it fails
pub record IsCounted {T : Type 0} (result : Result T SectorFault) (before after : MemorySectors) : Type 0 where
  pub fuse : fuse_of after ≡ fuse_of before - 1
  pub turn : OnOk result (fuse_of before ≢ 1)

-- it fails in its turn, or because there is no memory
abbrev pub IsInTurn : MemorySectors → SectorFault → Type 0
IsInTurn before fault = (fault ≡ faults.Memory) ⊎ ((fault ≡ faults.Failed) × (fuse_of before ≡ 1))

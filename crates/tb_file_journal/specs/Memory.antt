-- What a crash may leave of a file in memory, by the calls that were made.
use Rattle.std.specs.Prelude.{◌≡◌, ℕ, ◌-◌, ◌≤◌, Bool, List, [], ◌∷◌, length, take, reverse}
use Rattle.tb_file_journal.specs.Device.{Disk}
use Rattle.tb_file_journal.specs.Torn.{LeavesTorn, torn_after}
use Rattle.tb_file_journal.specs.Failures.{counted}
use Rattle.tb_file_journal.specs.Faults.{fault_in_memory}
use Rattle.tb_file_journal.specs.declared.faults.JournalFault.{JournalFault}
use Rattle.tb_file_journal.specs.declared.memory.Failures.{Failures}
use Rattle.tb_file_journal.specs.declared.memory.Memory.{Memory}
use Rattle.tb_file_journal.specs.declared.memory.Call.{Call}

abbrev pub memory_bytes : Memory → List ℕ
memory_bytes file = file.bytes.items

-- the writes, cuts and syncs so far
abbrev pub moments_of : Memory → ℕ
moments_of file = length file.calls.items

-- what a crash may leave after these calls, the newest first
abbrev pub LeftBy : List ℕ → List Call → List ℕ → Type 0
LeftBy first [] left = left ≡ first
LeftBy first (call ∷ earlier) left = (d : List ℕ) × LeftBy first earlier d × LeavesTorn d call left

-- the same at a moment of the file
abbrev pub CrashLeaves : Memory → ℕ → List ℕ → Type 0
CrashLeaves file moment left = LeftBy file.first.items (reverse (take moment file.calls.items)) left

-- what a crash at a moment leaves, if these bytes of each write without a later sync are on the disk
abbrev pub torn_of : Memory → ℕ → List ℕ → List ℕ
torn_of file moment torn = torn_after torn file.first.items (reverse (take moment file.calls.items))

-- the disk of a file that held the first bytes, after these calls
abbrev pub disk_after : List ℕ → List Call → List ℕ → Failures → Bool → Disk
disk_after first calls bytes failures sound = record {
  seen = bytes;
  may_leave = LeftBy first (reverse calls);
  moment = length calls;
  left_since = λ t left. (k : ℕ) × (t ≤ k) × (k ≤ length calls) × LeftBy first (reverse (take k calls)) left;
  failures = counted failures;
  sound = sound;
}

abbrev pub memory_disk : Memory → Disk
memory_disk file = disk_after file.first.items file.calls.items file.bytes.items file.failures file.sound

-- its reads return its bytes
abbrev pub memory_holds : Memory → List ℕ → Type 0
memory_holds file bytes = bytes ≡ memory_bytes file

-- calls that fail

-- the number of the call, counted from now, that fails; 0 if no call will fail
abbrev pub fuse_of : Memory → ℕ
fuse_of file = file.fuse

-- the fault that this call will have
abbrev pub why_of : Memory → JournalFault
why_of file = file.why

-- a call is one of those that are counted
pub record IsCounted (before after : Memory) : Type 0 where
  pub fuse : fuse_of after ≡ fuse_of before - 1
  pub why : why_of after ≡ why_of before

-- this call is the one that fails, with this fault
abbrev pub IsInTurn : Memory → JournalFault → Type 0
IsInTurn before fault = (fuse_of before ≡ 1) × (fault ≡ fault_in_memory (why_of before))

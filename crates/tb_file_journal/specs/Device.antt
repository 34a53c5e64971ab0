-- What the calls of a device do to its file, and what a crash may leave between two syncs.
use Rattle.std.specs.Prelude.{◌<◌, ◌≡◌, ◌⊎◌, ℕ, ◌+◌, ◌-◌, ◌^◌, ◌≤◌, min, max, Bool, true, false, List, ◌++◌, length, take, drop, Result, IfOk, IfErr, OnOk, OnErr}
use Rattle.tb_file_journal.specs.declared.faults.JournalFault.{JournalFault}
use Rattle.tb_file_journal.specs.declared.faults.JournalFault.TheVariants.{Memory, Failed, Full, SyncFailed}

-- a disk with one file, and its clock
pub record Disk : Type 1 where
  pub seen : List ℕ  -- the bytes that a read returns
  pub may_leave : List ℕ → Type 0  -- what a crash at this moment may leave
  pub moment : ℕ  -- a number that does not fall
  pub left_since : ℕ → List ℕ → Type 0  -- what a crash at some moment from that one on might have left
  pub failures : JournalFault → ℕ  -- how often a call has failed with this fault
  pub sound : Bool  -- no sync has failed

-- a crash leaves exactly this
abbrev pub Only : List ℕ → (List ℕ → Type 0) → Type 0
Only file outcomes = (c : List ℕ) → outcomes c → c ≡ file

-- all that a read returns is durable
abbrev pub IsOnDisk : Disk → Type 0
IsOnDisk disk = Only disk.seen disk.may_leave

-- the same, and a sync still keeps what is written
pub record IsSettled (disk : Disk) : Type 0 where
  pub kept : IsOnDisk disk
  pub sound : disk.sound ≡ true

-- the file with these bytes in the place of those at this offset
abbrev pub overwritten : List ℕ → ℕ → List ℕ → List ℕ
overwritten file at bytes = take at file ++ (bytes ++ drop (at + length bytes) file)

-- after a write of n bytes that a crash interrupts: any bytes in the range and past the old end, the same elsewhere
pub record Torn (at n : ℕ) (old new : List ℕ) : Type 0 where
  pub before : take at new ≡ take at old
  pub after : drop (at + n) new ≡ drop (at + n) old
  pub no_shorter : length old ≤ length new
  pub no_longer : length new ≤ max (length old) (at + n)

-- after a cut: some length between the two
pub record Cut (n : ℕ) (old new : List ℕ) : Type 0 where
  pub no_shorter : min n (length old) ≤ length new
  pub front : take (length new) old ≡ new

-- each new outcome of a crash is an old outcome after a step
abbrev pub Follows : (List ℕ → List ℕ → Type 0) → Disk → Disk → Type 0
Follows step before after = (c : List ℕ) → after.may_leave c → (d : List ℕ) × before.may_leave d × step d c

-- a crash leaves nothing that it might not have left before
abbrev pub AddsNone : Disk → Disk → Type 0
AddsNone before after = (c : List ℕ) → after.may_leave c → before.may_leave c

-- time goes on: a crash since t might have left what it might have left before, or what it may leave now
pub record Elapses (before after : Disk) : Type 0 where
  pub later : before.moment ≤ after.moment
  pub nothing_else : (t : ℕ) (c : List ℕ) → t ≤ before.moment → after.left_since t c → before.left_since t c ⊎ after.may_leave c
  pub keeps : (t : ℕ) (c : List ℕ) → t ≤ before.moment → before.left_since t c → after.left_since t c

-- a crash at any moment since before leaves a file that has P
pub record LeavesOnly (before after : Disk) (P : List ℕ → Type 0) : Type 0 where
  pub later : before.moment ≤ after.moment
  pub each : (c : List ℕ) → after.left_since before.moment c → P c
  -- for a run that began earlier
  pub earlier : (t : ℕ) (c : List ℕ) → t ≤ before.moment → after.left_since t c → before.left_since t c ⊎ P c

-- a count has gone up; at 2^64 - 1 it stays
abbrev pub Rises : ℕ → ℕ → Type 0
Rises before after = (before < after) ⊎ (2 ^ 64 - 1 ≤ after)

-- no call has failed since
abbrev pub FailsNone : Disk → Disk → Type 0
FailsNone before after = (fault : JournalFault) → after.failures fault ≡ before.failures fault

-- the fault of a sync, whatever failed
abbrev pub IsOfSync : JournalFault → Type 0
IsOfSync fault = fault ≡ SyncFailed

-- the faults of any other call on a device
abbrev pub IsOfCall : JournalFault → Type 0
IsOfCall fault = (fault ≡ Memory) ⊎ (fault ≡ Failed) ⊎ (fault ≡ Full)

-- a call has failed with this fault since, and no call with another fault
pub record HasFailed (before after : Disk) (fault : JournalFault) : Type 0 where
  pub named : IsOfCall fault ⊎ IsOfSync fault
  pub counted : Rises (before.failures fault) (after.failures fault)
  pub others : (other : JournalFault) → (other ≡ fault) ⊎ (after.failures other ≡ before.failures other)

-- an error is a failure of the device, under its own name
pub record HasCause {T : Type 0} (result : Result T JournalFault) (before after : Disk) : Type 0 where
  pub ok : OnOk result (FailsNone before after)
  pub cause : IfErr result (HasFailed before after)

-- why a call that allocates memory itself fails: the device failed with this fault, or it did not fail and there is no memory
abbrev pub IsCause : Disk → Disk → JournalFault → Type 0
IsCause before after fault = HasFailed before after fault ⊎ ((fault ≡ Memory) × FailsNone before after)

-- an error of such a call
pub record HasOwnCause {T : Type 0} (result : Result T JournalFault) (before after : Disk) : Type 0 where
  pub ok : OnOk result (FailsNone before after)
  pub cause : IfErr result (IsCause before after)

-- bytes that were read from an offset on: as many as fit or as are left, and they come first
pub record ReadsAt (count at : ℕ) (file into : List ℕ) : Type 0 where
  pub counts : count ≡ min (length into) (length (drop at file))
  pub bytes : take count into ≡ take count (drop at file)

-- the statement holds of each file that the reads of a device are of
abbrev pub OfHeld : (List ℕ → Type 0) → (List ℕ → Type 0) → Type 0
OfHeld holds Says = (file : List ℕ) → holds file → Says file

-- a read returns how many bytes of a file it gave, from an offset on
abbrev pub GivesBytes : Result ℕ JournalFault → ℕ → List ℕ → List ℕ → Type 0
GivesBytes result at into file = IfOk result (λ count. ReadsAt count at file into)

-- the number of bytes of a file is returned
abbrev pub AnswersLength : Result ℕ JournalFault → List ℕ → Type 0
AnswersLength result file = IfOk result (λ len. len ≡ length file)

-- if no sync has failed before, all that a read returns is durable
abbrev pub KeepsRead : {T F : Type 0} → Result T F → Disk → Disk → Type 0
KeepsRead result before after = before.sound ≡ true → OnOk result (IsOnDisk after)

-- if no sync has failed before, a crash at any moment of a call leaves such a file
abbrev pub LeavesIfSound : {D : Type 0} → (D → Disk) → D → D → (Disk → List ℕ → Type 0) → Type 0
LeavesIfSound disk before after May = (disk before).sound ≡ true → LeavesOnly (disk before) (disk after) (May (disk before))

-- calls that only read
pub record IsLookedAt (before after : Disk) : Type 0 where
  pub seen : after.seen ≡ before.seen
  pub crash : AddsNone before after
  pub time : Elapses before after
  pub sound : after.sound ≡ before.sound

-- a call that only reads
pub record Looks {T : Type 0} (result : Result T JournalFault) (before after : Disk) : Type 0 where
  pub looks : IsLookedAt before after
  pub cause : HasCause result before after

-- a write
pub record Writes (at : ℕ) (bytes : List ℕ) (result : Result (Unit {0}) JournalFault) (before after : Disk) : Type 0 where
  pub written : OnOk result (after.seen ≡ overwritten before.seen at bytes)
  pub crash : Follows (Torn at (length bytes)) before after
  pub time : Elapses before after
  pub sound : after.sound ≡ before.sound
  pub cause : HasCause result before after

-- a cut
pub record Cuts (n : ℕ) (result : Result (Unit {0}) JournalFault) (before after : Disk) : Type 0 where
  pub cut : OnOk result (after.seen ≡ take n before.seen)
  pub crash : Follows (Cut n) before after
  pub time : Elapses before after
  pub sound : after.sound ≡ before.sound
  pub cause : HasCause result before after

-- the bytes that a cut to this length removes were set aside before
abbrev pub SetsAside : (ℕ → List ℕ → Type 0) → ℕ → List ℕ → Type 0
SetsAside saved len file = len < length file → saved len (drop len file)

-- a sync: until it ends, a crash may leave what it might have left before, or what a read returns. After a failed sync no later sync makes anything
-- durable, whatever it returns
pub record Syncs (result : Result (Unit {0}) JournalFault) (before after : Disk) : Type 0 where
  pub durable : OnOk result (before.sound ≡ true → Only before.seen after.may_leave)
  pub sound : OnOk result (after.sound ≡ before.sound)
  pub unsound : OnErr result (after.sound ≡ false)
  pub seen : after.seen ≡ before.seen
  pub crash : (c : List ℕ) → after.may_leave c → before.may_leave c ⊎ (c ≡ before.seen)
  pub time : Elapses before after
  pub cause : HasCause result before after

-- What the system's calls on an open file do, as POSIX defines them.
use Rattle.std.specs.Prelude.{◌≡◌, ◌≢◌, ◌⊎◌, ℕ, ◌<◌, ◌≤◌, true, false, List, length, take, drop, Result, Ok, IfOk, IfErr, OnOk, IsErrOf, refl}
use Rattle.std.specs.declared.io.ErrorKind.{ErrorKind}
use Rattle.std.specs.declared.io.ErrorKind.TheVariants as kinds
use Rattle.tb_file_journal.specs.declared.faults.JournalFault.{JournalFault}
use Rattle.tb_file_journal.specs.declared.faults.JournalFault.TheVariants as faults
use Rattle.tb_file_journal.specs.Device.{Disk, Only, AddsNone, Follows, Torn, Cut, Elapses, FailsNone, HasFailed, IsLookedAt, overwritten}

-- the fault of a call with this error: no space, an exceeded quota and a file at its greatest length are a full disk
unfoldable pub fault_of : ErrorKind → JournalFault
fault_of kinds.OutOfMemory = faults.Memory
fault_of kinds.StorageFull = faults.Full
fault_of kinds.QuotaExceeded = faults.Full
fault_of kinds.FileTooLarge = faults.Full
fault_of _ = faults.Failed

-- the fault of a sync, whatever it returned: after it nothing is known of the file
abbrev pub sync_fault_of : ErrorKind → JournalFault
sync_fault_of kind = faults.SyncFailed

-- an error is a failure, under the name of its fault; an interruption is not a failure
pub record CountsFailure {T : Type 0} (fault : ErrorKind → JournalFault) (result : Result T ErrorKind) (before after : Disk) : Type 0 where
  pub ok : OnOk result (FailsNone before after)
  pub interrupted : IsErrOf result kinds.Interrupted → FailsNone before after
  pub failed : IfErr result (λ kind. kind ≢ kinds.Interrupted → HasFailed before after (fault kind))

-- after an interrupted call fewer interruptions are left
abbrev pub CountsDown : {T : Type 0} → Result T ErrorKind → ℕ → ℕ → Type 0
CountsDown result before after = IsErrOf result kinds.Interrupted → after < before

-- a read of some bytes from an offset on, maybe fewer than fit; no bytes only at the end, or into no space
pub record Preads (offset : ℕ) (into : List ℕ) (result : Result ℕ ErrorKind) (before after : Disk) : Type 0 where
  pub bytes : IfOk result (λ count. take count into ≡ take count (drop offset before.seen))
  pub end : result ≡ Ok 0 → (length into ≡ 0) ⊎ (length before.seen ≤ offset)
  pub looks : IsLookedAt before after
  pub counts : CountsFailure fault_of result before after

-- a change of which nothing is durable: a crash may still leave what it might have left before
pub record ChangesDisk (step : List ℕ → List ℕ → Type 0) (before after : Disk) : Type 0 where
  pub crash : Follows step before after
  pub still : AddsNone after before
  pub time : Elapses before after
  pub sound : after.sound ≡ before.sound

-- a write of some bytes at an offset, at least one and maybe not all
pub record Pwrites (offset : ℕ) (bytes : List ℕ) (result : Result ℕ ErrorKind) (before after : Disk) : Type 0 where
  pub some : IfOk result (λ count. 1 ≤ length bytes → 1 ≤ count)
  pub written : IfOk result (λ count. after.seen ≡ overwritten before.seen offset (take count bytes))
  pub interrupted : IsErrOf result kinds.Interrupted → after.seen ≡ before.seen
  pub changes : ChangesDisk (Torn offset (length bytes)) before after
  pub counts : CountsFailure fault_of result before after

-- a cut
pub record Ftruncates (len : ℕ) (result : Result (Unit {0}) ErrorKind) (before after : Disk) : Type 0 where
  pub cut : OnOk result (after.seen ≡ take len before.seen)
  pub interrupted : IsErrOf result kinds.Interrupted → after.seen ≡ before.seen
  pub changes : ChangesDisk (Cut len) before after
  pub counts : CountsFailure fault_of result before after

-- a sync: until it ends, a crash may leave what it might have left before, or what a read returns. After a failed sync no later sync makes anything
-- durable, whatever it returns
pub record Fdatasyncs (result : Result (Unit {0}) ErrorKind) (before after : Disk) : Type 0 where
  pub durable : OnOk result (before.sound ≡ true → Only before.seen after.may_leave)
  pub sound : OnOk result (after.sound ≡ before.sound)
  pub interrupted : IsErrOf result kinds.Interrupted → after.sound ≡ before.sound
  pub unsound : IfErr result (λ kind. kind ≢ kinds.Interrupted → after.sound ≡ false)
  pub seen : after.seen ≡ before.seen
  pub crash : (c : List ℕ) → after.may_leave c → before.may_leave c ⊎ (c ≡ before.seen)
  pub time : Elapses before after
  pub counts : CountsFailure sync_fault_of result before after

-- the file's length. No signal interrupts it
pub record Fstats (result : Result ℕ ErrorKind) (before after : Disk) : Type 0 where
  pub len : IfOk result (λ len. len ≡ length before.seen)
  pub looks : IsLookedAt before after
  pub ok : OnOk result (FailsNone before after)
  pub failed : IfErr result (λ kind. HasFailed before after (fault_of kind))

-- examples

pub no_quota_is_full : fault_of kinds.QuotaExceeded ≡ faults.Full
unfolding fault_of
no_quota_is_full = refl

pub no_permission_is_failed : fault_of kinds.PermissionDenied ≡ faults.Failed
unfolding fault_of
no_permission_is_failed = refl

pub a_sync_without_memory_has_failed : sync_fault_of kinds.OutOfMemory ≡ faults.SyncFailed
a_sync_without_memory_has_failed = refl

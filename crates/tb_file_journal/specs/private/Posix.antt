-- What the adapter does, and what its private functions leave.
use Rattle.std.specs.Prelude.{◌≡◌, ◌⊎◌, ℕ, ◌≤◌, List, length, take, drop, Result, Ok, IfOk}
use Rattle.tb_file_journal.specs.declared.faults.JournalFault.{JournalFault}
use Rattle.tb_file_journal.specs.Device.{Disk, Torn, HasCause, Looks, overwritten}
use Rattle.tb_file_journal.specs.System.{ChangesDisk}

-- a read that no signal interrupts
pub record ReadsSome (offset : ℕ) (into : List ℕ) (result : Result ℕ JournalFault) (before after : Disk) : Type 0 where
  pub bytes : IfOk result (λ count. take count into ≡ take count (drop offset before.seen))
  pub end : result ≡ Ok 0 → (length into ≡ 0) ⊎ (length before.seen ≤ offset)
  pub looks : Looks result before after

-- a write that no signal interrupts
pub record WritesSomeBytes (offset : ℕ) (bytes : List ℕ) (result : Result ℕ JournalFault) (before after : Disk) : Type 0 where
  pub written : IfOk result (λ count. after.seen ≡ overwritten before.seen offset (take count bytes))
  pub changes : ChangesDisk (Torn offset (length bytes)) before after
  pub cause : HasCause result before after

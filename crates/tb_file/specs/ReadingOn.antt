-- What is copied from a file after its damage.
use Rattle.std.specs.Prelude.{ℕ, ◌+◌, ◌≤◌, List, [], ◌∷◌, length}
use Rattle.tb_file_journal.specs.Device.{Disk, LeavesOnly}
use Rattle.tb_file_journal.specs.Seeking.{StandsAt}
use Rattle.tb_machine.specs.declared.entries.Entry.{Entry}
use Rattle.tb_file.specs.Keeping.{History, longer, Keeping, Keeps, IsUsable, IsLedger}
use Rattle.tb_file.specs.Recovering.{RecordsLead}

-- these records are in a file from an offset on and up to another, in this order and without overlap
abbrev pub StandBetween : ℕ → List (List ℕ) → ℕ → List ℕ → Type 0
StandBetween at [] end file = at ≤ end
StandBetween at (bytes ∷ records) end file =
    (place : ℕ) × (at ≤ place) × StandsAt place bytes file × StandBetween (place + (4 + length bytes)) records end file

-- the history of a new file goes on with entries that follow it legally, and whose records are in the file that is read, from an offset on
pub record IsReadOn (tells : Type 0) {N : Type 0} (disk : N → Disk) (holds : List ℕ → Type 0) (at : ℕ) (before after : Keeping N) : Type 0 where
  pub records : List (List ℕ)
  pub leads : RecordsLead before.state records after.state
  pub stand : (file : List ℕ) → holds file → (end : ℕ) × StandBetween at records end file
  pub kept : tells → (h : History) → Keeps disk h before → Keeps disk (longer h leads.entries) after
  pub usable : IsUsable after

-- a crash at any moment of a call leaves a history that goes on from this one
abbrev pub LeavesLonger : History → Disk → Disk → Type 0
LeavesLonger h before after = LeavesOnly before after (λ c. (more : List Entry) × IsLedger (longer h more) c)

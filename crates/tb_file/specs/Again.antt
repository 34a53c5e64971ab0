-- What is opened again after a crash goes on as if there had been no crash.
use Rattle.std.specs.Prelude.{ℕ, ◌≡◌, ◌⊎◌, List, [], ◌++◌, Result}
use Rattle.tb_records.specs.Transport.{Input, Output}
use Rattle.tb_file_journal.specs.Device.{Disk}
use Rattle.tb_machine.specs.Scripts.{Pair}
use Rattle.tb_file.specs.declared.faults.KeepFault.{KeepFault}
use Rattle.tb_file.specs.Keeping.{History, history_state, longer, Keeping, Keeps, IsLedger}
use Rattle.tb_file.specs.Rounds.{state_from, entries_from, reply_bytes_from, Served}
use Rattle.tb_file.specs.Moments.{AtAMoment, all_pairs}

-- a file represents at most one history
abbrev pub FileHasOneHistory : Type 0
FileHasOneHistory = (file : List ℕ) (h k : History) → IsLedger h file → IsLedger k file → h ≡ k

-- after the entries of pairs the machine is the one that served these pairs
abbrev pub OneLedger : Type 0
OneLedger = (h : History) (ps : List Pair) → history_state (longer h (entries_from (history_state h) ps)) ≡ state_from (history_state h) ps

-- pairs that come after a crash get the replies that they get after the pairs from before it
abbrev pub GoesOnAfter : Type 0
GoesOnAfter = (h : History) (ps qs : List Pair)
    → reply_bytes_from (history_state h) (ps ++ qs) ≡ reply_bytes_from (history_state h) ps ++ reply_bytes_from (history_state (longer h (entries_from (history_state h) ps))) qs

module _ (tells : Type 0) {D : Type 0} (disk : D → Disk) where
  -- a crash at any moment of serving: the file has the entries of some first pairs
  abbrev pub AnyCrash : Type 0
  AnyCrash = (h : History) (result : Result ℕ KeepFault) (before after : Keeping D) (first last : Input) (start written : Output) (file : List ℕ)
      → tells → Keeps disk h before → (served : Served tells disk result before after first last start written)
      → (disk after.journal.device).left_since (disk before.journal.device).moment file
      → AtAMoment h (all_pairs served) file []

  -- a device at some moment of serving: what a crash may leave there, a crash since the beginning might have left
  abbrev pub IsAmid : Disk → Disk → Disk → Type 0
  IsAmid before after amid = (c : List ℕ) → amid.may_leave c → after.left_since before.moment c

  -- if only the process is killed, at any moment of serving or after it, the next process reads such a file too
  abbrev pub AfterKill : Type 0
  AfterKill = (h : History) (result : Result ℕ KeepFault) (before after : Keeping D) (first last : Input) (start written : Output) (amid : D)
      → tells → Keeps disk h before → (served : Served tells disk result before after first last start written)
      → ((amid ≡ after.journal.device) ⊎ IsAmid (disk before.journal.device) (disk after.journal.device) (disk amid))
      → AtAMoment h (all_pairs served) (disk amid).seen []

-- What following a log with the ledger in memory does, and its outcome.
use Rattle.std.specs.Prelude.{ℕ, false, ◌≡◌, ◌⊎◌, [], Result, Ok, Err, IfOk}
use Rattle.tb_records.specs.declared.limits.Profile.{Profile}
use Rattle.tb_records.specs.Transport.{Input, Output, Sent, CutOff}
use Rattle.tb_log.specs.declared.faults.LogFault.{LogFault}
use Rattle.tb_log.specs.Follows.{Followed}
use Rattle.tb_edge_file.specs.declared.faults.Failed.TheVariants as failed
use Rattle.tb_edge_file.specs.declared.faults.KeepCommandFault.TheVariants.{Device}
use Rattle.tb_edge_file.specs.Ends.{outcome_by}
use Rattle.tb_edge_file.specs.ExitStatuses.{failed_pipe, item_fault}
use Rattle.tb_edge_file.specs.Outcomes.{FileOutcome}

-- if a fault ends it, the replies that are held back are sent first; if that fails, that is the fault
abbrev pub SendsReplies : FileOutcome → FileOutcome → Output → Output → Type 0
SendsReplies (Ok done) outcome middle written = (outcome ≡ Ok tt) × (written ≡ middle)
SendsReplies (Err fault) outcome middle written =
    ((outcome ≡ Err fault) × Sent [] middle written)
    ⊎ ((outcome ≡ Err (Device failed.Output)) × CutOff [] middle written)

-- a log was followed from its first entry on by a machine in memory, and all its replies were passed on, or the output failed
pub record FollowsLog (outcome : FileOutcome) (profile : Profile) (clients_max : ℕ) (first last : Input) (start written : Output) : Type 0 where
  pub result : Result ℕ LogFault
  pub middle : Output
  pub followed : Followed profile clients_max result first last start middle
  pub passed : IfOk result (λ position. middle.held ≡ false)
  pub sends : SendsReplies (outcome_by (item_fault (failed_pipe first.failed last.failed)) result) outcome middle written

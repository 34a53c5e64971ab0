-- What clauses see of a server.
use Rattle.std.specs.Prelude.{ℕ, List}
use Rattle.tb_records.specs.Messages.{Message}
use Rattle.tb_machine.specs.declared.entries.Entry.{Entry}
use Rattle.tb_published.specs.declared.faults.TakeFault.{TakeFault}
use Rattle.tb_published.specs.Openings.{Opening}
use Rattle.tb_service.specs.Names.{Name}
use Rattle.tb_service.specs.History.{ServerState, Serves}

-- a server that has not begun: the history, the moments and the gate that it begins with, its service, and how many ports were ever made for it
pub record Start (M G : Type 0) : Type 0 where
  pub state : ServerState M G
  pub service : Name
  pub port_count : ℕ

-- The requests taken had their turns, from the first place on; those in `refused` were left out, and this is the history that results. Moments and
-- gate end in some state.
pub record Finishes {M G : Type 0} (o : Opening) (tells : M → ℕ → M → Type 0) (passes : G → ℕ → G → Type 0)
    (before : ServerState M G) (taken : List Message) (refused : List (ℕ × TakeFault)) (history : List Entry) : Type 0 where
  pub moments : M
  pub gate : G
  pub serves : Serves o tells passes before 1 taken refused (record { history = history; moments = moments; gate = gate })

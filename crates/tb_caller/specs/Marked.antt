-- The laws of histories with a mark: profile 2 executes the entries after it.
use Rattle.std.specs.Prelude.{ℕ, Option}
use Rattle.tb_records.specs.declared.limits.Profile.{Profile}
use Rattle.tb_machine.specs.Dumps.{IsLegalWith}
use Rattle.tb_machine.specs.MarkedLaws.{next_in}
use Rattle.tb_caller.specs.CallLaws.{InHistory, OverForGood}
use Rattle.tb_caller.specs.Networks.{CallsOnce, NeverRefused}

-- each law of a server with one profile holds of one whose history has a mark
pub record HoldWithMark (profile : Profile) (clients_max : ℕ) (mark : Option ℕ) : Type 0 where
  pub in_history : InHistory (IsLegalWith profile clients_max mark) (next_in profile clients_max mark)
  pub over_for_good : OverForGood (IsLegalWith profile clients_max mark) (next_in profile clients_max mark)
  pub calls_once : CallsOnce (IsLegalWith profile clients_max mark) (next_in profile clients_max mark)
  pub never_refused : NeverRefused (IsLegalWith profile clients_max mark) (next_in profile clients_max mark)

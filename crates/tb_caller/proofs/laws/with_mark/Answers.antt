use Rattle.tb_caller.proofs.Entered.{in_history}
use Rattle.tb_caller.proofs.Over.{over_for_good}
use Rattle.tb_caller.proofs.Networked.{calls_once, never_refused}
use Rattle.tb_caller.proofs.laws.with_mark.Goals as goal

pub returns : goal.returns
returns c = λ profile clients_max mark. record {
  in_history = in_history profile clients_max mark;
  over_for_good = over_for_good profile clients_max mark;
  calls_once = calls_once profile clients_max mark;
  never_refused = never_refused profile clients_max mark;
}

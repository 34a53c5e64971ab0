use Rattle.tb_machine.proofs.PlainRuns.{register_run}
use Rattle.tb_machine.proofs.worked_rows.register_run.Goals as goal

pub returns : goal.returns
returns c = register_run

use Rattle.tb_caller.proofs.Scripted.{in_log}
use Rattle.tb_caller.proofs.laws.in_log.Goals as goal

pub returns : goal.returns
returns c = in_log

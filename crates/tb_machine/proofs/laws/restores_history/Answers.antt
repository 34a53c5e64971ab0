use Rattle.tb_machine.proofs.MarkLegal.{restores_history}
use Rattle.tb_machine.proofs.laws.restores_history.Goals as goal

pub returns : goal.returns
returns c = restores_history

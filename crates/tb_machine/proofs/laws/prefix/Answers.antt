use Rattle.tb_machine.proofs.Replicas.{prefix}
use Rattle.tb_machine.proofs.laws.prefix.Goals as goal

pub returns : goal.returns
returns c = prefix

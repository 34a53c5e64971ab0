use Rattle.tb_machine.proofs.Replicas.{timely}
use Rattle.tb_machine.proofs.laws.timely.Goals as goal

pub returns : goal.returns
returns c = timely

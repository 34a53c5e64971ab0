use Rattle.tb_machine.proofs.Replicas.{from_here}
use Rattle.tb_machine.proofs.laws.from_here.Goals as goal

pub returns : goal.returns
returns c = from_here

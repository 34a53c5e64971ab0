use Rattle.tb_machine.proofs.LawProofs.{stays_out}
use Rattle.tb_machine.proofs.laws.stays_out.Goals as goal

pub returns : goal.returns
returns c = stays_out

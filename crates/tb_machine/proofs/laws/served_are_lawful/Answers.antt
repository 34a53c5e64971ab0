use Rattle.tb_machine.proofs.Accepted.{served_are_lawful}
use Rattle.tb_machine.proofs.laws.served_are_lawful.Goals as goal

pub returns : goal.returns
returns c = served_are_lawful

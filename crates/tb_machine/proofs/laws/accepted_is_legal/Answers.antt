use Rattle.tb_machine.proofs.Accepted.{accepted_is_legal}
use Rattle.tb_machine.proofs.laws.accepted_is_legal.Goals as goal

pub returns : goal.returns
returns c = accepted_is_legal

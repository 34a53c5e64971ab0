use Rattle.tb_machine.proofs.RepeatLaws.{new_again}
use Rattle.tb_machine.proofs.laws.not_new_again.Goals as goal

pub returns : goal.returns
returns c = new_again

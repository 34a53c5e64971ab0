use Rattle.tb_machine.proofs.Accepted.{replies_are_of_history}
use Rattle.tb_machine.proofs.laws.replies_are_of_history.Goals as goal

pub returns : goal.returns
returns c = replies_are_of_history

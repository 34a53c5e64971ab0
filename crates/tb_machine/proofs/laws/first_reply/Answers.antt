use Rattle.tb_machine.proofs.LawProofs.{first_reply}
use Rattle.tb_machine.proofs.laws.first_reply.Goals as goal

pub returns : goal.returns
returns c = first_reply

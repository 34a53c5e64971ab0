use Rattle.tb_machine.proofs.LawProofs.{one_key}
use Rattle.tb_machine.proofs.laws.one_key.Goals as goal

pub returns : goal.returns
returns c = one_key

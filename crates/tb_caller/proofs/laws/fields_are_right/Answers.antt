use Rattle.tb_caller.proofs.Fields.{fields_are_right}
use Rattle.tb_caller.proofs.laws.fields_are_right.Goals as goal

pub returns : goal.returns
returns c = fields_are_right

use Rattle.std.proofs.Common.{refl}
use Rattle.tb_machine.proofs.worked_rows.greatest_sum.Goals as goal

pub returns : goal.returns
returns c = refl

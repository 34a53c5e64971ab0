use Rattle.std.proofs.Common.{refl}
use Rattle.tb_machine.proofs.worked_rows.bounded_moments.Goals as goal

pub returns : goal.returns
returns c = (refl, refl, refl)

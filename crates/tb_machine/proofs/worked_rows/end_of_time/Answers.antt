use Rattle.std.proofs.Common.{refl}
use Rattle.tb_machine.proofs.worked_rows.end_of_time.Goals as goal

pub returns : goal.returns
returns c = (refl, refl, refl)

use Rattle.std.proofs.Common.{refl}
use Rattle.tb_machine.proofs.worked_rows.marked_history.Goals as goal

pub returns : goal.returns
returns c = (refl, refl, refl)

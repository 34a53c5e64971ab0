use Rattle.std.proofs.Common.{refl}
use Rattle.tb_machine.proofs.worked_rows.script_in_parts.Goals as goal

pub returns : goal.returns
returns c = (refl, refl, refl, refl)

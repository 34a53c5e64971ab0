use Rattle.std.proofs.Common.{refl}
use Rattle.tb_machine.proofs.worked_rows.copies_in_a_script.Goals as goal

pub returns : goal.returns
returns c = (refl, refl, refl, refl)

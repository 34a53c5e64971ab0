use Rattle.std.proofs.Common.{refl}
use Rattle.tb_service.proofs.finished.Finished.new.Goals as goal

pub returns-clause-parts : goal.returns-clause-parts
returns-clause-parts g c = (refl, refl, refl)

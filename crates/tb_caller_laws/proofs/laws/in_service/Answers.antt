use Rattle.tb_caller_laws.proofs.Offered.{in_service}
use Rattle.tb_caller_laws.proofs.laws.in_service.Goals as goal

pub returns : goal.returns
returns c = in_service

use Rattle.tb_service.proofs.Owners.{none_invented}
use Rattle.tb_service.proofs.laws.none_invented.Goals as goal

pub returns : goal.returns
returns g c = none_invented g.J.Naming.opening g.M.Moments.tells g.G.Gate.passes

use Rattle.tb_service.proofs.Told.{one_list, one_outcome}
use Rattle.tb_service.proofs.laws.one_list.Goals as goal

pub returns-clause-moments : goal.returns-clause-moments
returns-clause-moments g c = one_list g.M.Moments.tells

pub returns-clause-history : goal.returns-clause-history
returns-clause-history g c = one_outcome g.J.Naming.opening g.M.Moments.tells g.G.Gate.passes

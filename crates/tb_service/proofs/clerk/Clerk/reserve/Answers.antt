use Rattle.std.proofs.Common.{rules}
use Rattle.tb_service.proofs.clerk.Clerk.reserve.Goals as goal

pub returns-in_err-reserve-clause-same : goal.returns-in_err-reserve-clause-same
returns-in_err-reserve-clause-same g c = search rules

pub returns-clause-same : goal.returns-clause-same
returns-clause-same g c = search rules

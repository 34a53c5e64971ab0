use Rattle.tb_caller.proofs.Worked.{both_return, lookup_waits}
use Rattle.tb_caller.proofs.laws.both_return.Goals as goal

pub returns-clause-returns : goal.returns-clause-returns
returns-clause-returns c = both_return

pub returns-clause-waits : goal.returns-clause-waits
returns-clause-waits c = lookup_waits

use Rattle.tb_ledger.proofs.Common.{rules}
use Rattle.tb_ledger.proofs.kinds.resolving.settle_side.Goals as goal

pub returns : goal.returns
returns c = search rules

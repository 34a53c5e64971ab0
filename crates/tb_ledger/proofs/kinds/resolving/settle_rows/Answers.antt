use Rattle.tb_ledger.proofs.Common.{rules}
use Rattle.tb_ledger.proofs.kinds.resolving.settle_rows.Goals as goal

pub returns-clause-settled : goal.returns-clause-settled
returns-clause-settled g c = search rules

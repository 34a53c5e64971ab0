use Rattle.tb_ledger.proofs.Common.{rules}
use Rattle.tb_ledger.proofs.kinds.two_party.above.Goals as goal

pub returns : goal.returns
returns c = search rules

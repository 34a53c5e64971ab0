use Rattle.tb_ledger.proofs.Common.{rules}
use Rattle.tb_ledger.proofs.kinds.transfer.TransferEvent.refuse.Goals as goal

pub returns : goal.returns
returns g c = search rules

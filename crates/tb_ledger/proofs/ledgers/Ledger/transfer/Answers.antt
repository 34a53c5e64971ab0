use Rattle.tb_ledger.proofs.Common.{Some, None, ap, ◌∙◌}
use Rattle.tb_ledger.proofs.ReadLaws.{transfer_read}
use Rattle.tb_ledger.proofs.ledgers.Ledger.transfer.Goals as goal

pub returns-in-Some : goal.returns-in-Some
returns-in-Some g c = ap (λ t. Some t) c.recorded.ensures ∙ transfer_read _ _ _ _ _ c.args.self.now c.args.id (Some c.in-Some.row.now) c.self.view_is c.in-Some.ensures

pub returns-in-None : goal.returns-in-None
returns-in-None g c = transfer_read _ _ _ _ _ c.args.self.now c.args.id None c.self.view_is c.in-None.ensures

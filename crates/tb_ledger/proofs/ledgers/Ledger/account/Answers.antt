use Rattle.tb_ledger.proofs.ReadLaws.{account_read, account_unread}
use Rattle.tb_ledger.proofs.ledgers.Ledger.account.Goals as goal

pub returns-in-Some : goal.returns-in-Some
returns-in-Some g c = account_read _ _ _ _ _ _ c.self.invariant c.args.self.now c.args.id c.in-Some.row.now c.as_it_stands.result c.self.view_is c.in-Some.ensures c.as_it_stands.ensures

pub returns-in-None : goal.returns-in-None
returns-in-None g c = account_unread _ _ _ _ _ _ c.self.invariant c.args.self.now c.args.id c.self.view_is c.in-None.ensures

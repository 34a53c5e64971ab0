use Rattle.tb_ledger.proofs.Common.{rules}
use Rattle.tb_ledger.proofs.tables.work.undo_one.Goals as goal

pub returns-in-Account : goal.returns-in-Account
returns-in-Account g c = search rules

use Rattle.tb_ledger.proofs.Common.{account_events, transfer_events}
use Rattle.tb_ledger.proofs.CuttingLaws.{cuts_one_way}
use Rattle.tb_ledger.proofs.laws.chains_are_cut_one_way.Goals as goal

pub returns-clause-accounts : goal.returns-clause-accounts
returns-clause-accounts c = cuts_one_way account_events

pub returns-clause-transfers : goal.returns-clause-transfers
returns-clause-transfers c = cuts_one_way transfer_events

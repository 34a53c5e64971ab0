use Rattle.tb_file.proofs.OneHistory.{one_history, one_ledger, goes_on_after}
use Rattle.tb_file.proofs.laws.opened_again.Goals as goal

pub returns-clause-one_history : goal.returns-clause-one_history
returns-clause-one_history c = one_history

pub returns-clause-one_ledger : goal.returns-clause-one_ledger
returns-clause-one_ledger c = one_ledger

pub returns-clause-goes_on : goal.returns-clause-goes_on
returns-clause-goes_on c = goes_on_after

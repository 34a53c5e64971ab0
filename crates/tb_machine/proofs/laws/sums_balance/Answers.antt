use Rattle.tb_machine.proofs.SoundBooks.{limits_hold, ledgers_balance}
use Rattle.tb_machine.proofs.laws.sums_balance.Goals as goal

pub returns-clause-limits : goal.returns-clause-limits
returns-clause-limits c = limits_hold

pub returns-clause-ledgers : goal.returns-clause-ledgers
returns-clause-ledgers c = ledgers_balance

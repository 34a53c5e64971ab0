use Rattle.std.proofs.Common.{rules}
use Rattle.tb_machine.proofs.executing.create_transfers.Goals as goal

pub returns-in_err-results : goal.returns-in_err-results
returns-in_err-results g c = search rules

pub returns : goal.returns
returns g c = search rules

use Rattle.tb_machine.proofs.RepliesFit.{replies_fit, replies_read_back}
use Rattle.tb_machine.proofs.laws.replies_fit.Goals as goal

pub returns-clause-fit : goal.returns-clause-fit
returns-clause-fit c = replies_fit

pub returns-clause-read_back : goal.returns-clause-read_back
returns-clause-read_back c = replies_read_back

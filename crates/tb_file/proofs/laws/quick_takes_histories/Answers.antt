use Rattle.tb_file.proofs.Orders.{histories_in_order, quick_refuses_none}
use Rattle.tb_file.proofs.laws.quick_takes_histories.Goals as goal

pub returns-clause-in_order : goal.returns-clause-in_order
returns-clause-in_order c = histories_in_order

pub returns-clause-accepted : goal.returns-clause-accepted
returns-clause-accepted c = quick_refuses_none

use Rattle.tb_caller_laws.proofs.Others.{meets_others}
use Rattle.tb_caller_laws.proofs.Worked.{is_worked}
use Rattle.tb_caller_laws.proofs.laws.schedule_is_possible.Goals as goal

pub returns-clause-worked : goal.returns-clause-worked
returns-clause-worked c = is_worked

pub returns-clause-others : goal.returns-clause-others
returns-clause-others c = meets_others

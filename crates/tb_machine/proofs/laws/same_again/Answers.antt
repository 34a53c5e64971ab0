use Rattle.tb_machine.proofs.Replicas.{same_again, copy_changes_nothing}
use Rattle.tb_machine.proofs.laws.same_again.Goals as goal

pub returns-clause-same : goal.returns-clause-same
returns-clause-same c = same_again

pub returns-clause-copies : goal.returns-clause-copies
returns-clause-copies c = copy_changes_nothing

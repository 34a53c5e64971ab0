use Rattle.tb_file_journal.proofs.Growths.{later_same, later_then}
use Rattle.tb_file_journal.proofs.laws.moments_follow.Goals as goal

pub returns-clause-now : goal.returns-clause-now
returns-clause-now c = later_same

pub returns-clause-next : goal.returns-clause-next
returns-clause-next c = later_then

use Rattle.tb_file.proofs.EntriesAbove.{entries_are_above}
use Rattle.tb_file.proofs.Dumping.{entries_once}
use Rattle.tb_file.proofs.laws.entries_above.Goals as goal

pub returns-clause-above : goal.returns-clause-above
returns-clause-above c = entries_are_above

pub returns-clause-once : goal.returns-clause-once
returns-clause-once c = entries_once

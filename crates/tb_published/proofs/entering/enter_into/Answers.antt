use Rattle.std.proofs.Common.{rules}
use Rattle.tb_published.proofs.entering.enter_into.Goals as goal

pub returns-in-Known-Repeat-default-clause-entered : goal.returns-in-Known-Repeat-default-clause-entered
returns-in-Known-Repeat-default-clause-entered c = search rules

pub returns-in-Known-Repeat-default-clause-lawful : goal.returns-in-Known-Repeat-default-clause-lawful
returns-in-Known-Repeat-default-clause-lawful c = search rules

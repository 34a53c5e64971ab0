use Rattle.std.proofs.Common.{rules}
use Rattle.tb_caller.proofs.callers.names.Goals as goal

pub returns-else-matches : goal.returns-else-matches
returns-else-matches c = search rules

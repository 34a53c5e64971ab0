use Rattle.std.proofs.Common.{rules}
use Rattle.tb_caller.proofs.callers.ended.Goals as goal

pub returns-in-Open : goal.returns-in-Open
returns-in-Open c = search rules

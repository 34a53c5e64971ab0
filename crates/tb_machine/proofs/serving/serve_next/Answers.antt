use Rattle.std.proofs.Common.{rules}
use Rattle.tb_machine.proofs.serving.serve_next.Goals as goal

pub returns-in_default : goal.returns-in_default
returns-in_default g c = search rules

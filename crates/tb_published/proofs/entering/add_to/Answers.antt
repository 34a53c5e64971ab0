use Rattle.std.proofs.Common.{rules}
use Rattle.tb_published.proofs.entering.add_to.Goals as goal

pub returns : goal.returns
returns c = search rules

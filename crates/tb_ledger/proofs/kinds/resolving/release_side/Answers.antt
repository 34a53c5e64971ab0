use Rattle.tb_ledger.proofs.Common.{rules}
use Rattle.tb_ledger.proofs.kinds.resolving.release_side.Goals as goal

pub returns-then-s : goal.returns-then-s
returns-then-s c = search rules

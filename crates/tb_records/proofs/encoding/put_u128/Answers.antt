use Rattle.std.proofs.Common.{append_assoc, arith}
use Rattle.tb_records.proofs.NumberBytes.{two_halves}
use Rattle.tb_records.proofs.encoding.put_u128.Goals as goal

pub returns-clause-written : goal.returns-clause-written
returns-clause-written c = grind (arith, two_halves, append_assoc)

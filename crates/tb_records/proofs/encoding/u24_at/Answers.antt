use Rattle.std.proofs.Common.{arith}
use Rattle.tb_records.proofs.NumberBytes.{number_at}
use Rattle.tb_records.proofs.encoding.u24_at.Goals as goal

pub returns : goal.returns
returns c = number_at 3 c.args.at _ _ c.args.bytes.now (omega arith) c.read_u24.ensures

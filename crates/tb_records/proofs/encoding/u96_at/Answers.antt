use Rattle.std.proofs.Common.{arith}
use Rattle.tb_records.proofs.NumberBytes.{number_at}
use Rattle.tb_records.proofs.encoding.u96_at.Goals as goal

pub returns : goal.returns
returns c = number_at 12 c.args.at _ _ c.args.bytes.now (omega arith) c.read_uint128.ensures

use Rattle.std.proofs.Common.{arith}
use Rattle.tb_records.proofs.NumberBytes.{byte_at_place, le_at-spelled}
use Rattle.tb_records.proofs.encoding.u8_at.Goals as goal

pub returns-clause-number : goal.returns-clause-number
returns-clause-number c = byte_at_place c.args.at c.args.bytes.now

pub returns-clause-spelled : goal.returns-clause-spelled
returns-clause-spelled c = grind (arith, byte_at_place, le_at-spelled)

use Rattle.std.proofs.Common.{arith}
use Rattle.tb_records.proofs.NumberBytes.{number_at, number_spelled}
use Rattle.tb_records.proofs.encoding.u64_at.Goals as goal

pub returns-clause-number : goal.returns-clause-number
returns-clause-number c = number_at 8 c.args.at _ _ c.args.bytes.now (omega arith) c.read_u64.ensures

pub returns-clause-spelled : goal.returns-clause-spelled
returns-clause-spelled c =
    number_spelled 8 c.args.at _ c.args.bytes.now (omega arith) (λ i. omega (arith, c.type_inv.bytes i)) (returns-clause-number c)

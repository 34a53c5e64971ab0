use Rattle.std.proofs.Common.{arith}
use Rattle.tb_records.proofs.NumberBytes.{put_number}
use Rattle.tb_records.proofs.encoding.put_u64.Goals as goal

pub returns-clause-written : goal.returns-clause-written
returns-clause-written c = put_number 8 c.args.at c.args.number c.args.out.now _ (omega arith) c.write_u64.ensures

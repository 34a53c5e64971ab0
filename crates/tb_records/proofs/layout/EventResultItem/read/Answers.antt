use Rattle.std.proofs.Common.{take_all, arith}
use Rattle.tb_records.specs.RecordBytes.{result_bytes}
use Rattle.tb_records.proofs.layout.EventResultItem.read.Goals as goal

pub returns-clause-spelled : goal.returns-clause-spelled
unfolding result_bytes
returns-clause-spelled c = cc (take_all 8 c.args.bytes.now (omega arith))

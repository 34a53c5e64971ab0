use Rattle.std.proofs.Common.{take_all, arith}
use Rattle.tb_records.specs.RecordBytes.{transfer_bytes}
use Rattle.tb_records.proofs.layout.TransferItem.read.Goals as goal

pub returns-clause-spelled : goal.returns-clause-spelled
unfolding transfer_bytes
returns-clause-spelled c = cc (take_all 128 c.args.bytes.now (omega arith))

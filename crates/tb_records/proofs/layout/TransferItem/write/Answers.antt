use Rattle.tb_records.specs.RecordBytes.{transfer_bytes}
use Rattle.tb_records.proofs.layout.TransferItem.write.Goals as goal

pub returns-clause-spelled : goal.returns-clause-spelled
unfolding transfer_bytes
returns-clause-spelled c = cc

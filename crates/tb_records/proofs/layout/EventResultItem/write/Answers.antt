use Rattle.tb_records.specs.RecordBytes.{result_bytes}
use Rattle.tb_records.proofs.layout.EventResultItem.write.Goals as goal

pub returns-clause-spelled : goal.returns-clause-spelled
unfolding result_bytes
returns-clause-spelled c = cc

use Rattle.tb_records.specs.RecordBytes.{account_bytes}
use Rattle.tb_records.proofs.layout.AccountItem.write.Goals as goal

pub returns-clause-spelled : goal.returns-clause-spelled
unfolding account_bytes
returns-clause-spelled c = cc

use Rattle.tb_machine.proofs.JournalRecords.{one_record}
use Rattle.tb_machine.proofs.laws.one_record.Goals as goal

pub returns : goal.returns
returns c = one_record

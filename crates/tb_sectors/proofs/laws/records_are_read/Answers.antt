use Rattle.tb_sectors.proofs.Spelled.{records_are_read}
use Rattle.tb_sectors.proofs.laws.records_are_read.Goals as goal

pub returns : goal.returns
returns c = records_are_read

use Rattle.tb_sectors.proofs.Spelled.{records_are_all_or_none}
use Rattle.tb_sectors.proofs.laws.records_are_all_or_none.Goals as goal

pub returns : goal.returns
returns c = records_are_all_or_none

use Rattle.tb_sectors.proofs.Journals.{file_is_all_or_none}
use Rattle.tb_sectors.proofs.laws.file_is_all_or_none.Goals as goal

pub returns : goal.returns
returns c = file_is_all_or_none

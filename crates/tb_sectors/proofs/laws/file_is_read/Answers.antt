use Rattle.tb_sectors.proofs.Journals.{file_is_read}
use Rattle.tb_sectors.proofs.laws.file_is_read.Goals as goal

pub returns : goal.returns
returns c = file_is_read

use Rattle.tb_sectors.proofs.Journals.{committed_is_read}
use Rattle.tb_sectors.proofs.laws.committed_is_read.Goals as goal

pub returns : goal.returns
returns c = committed_is_read

use Rattle.tb_sectors.proofs.Latches.{closed_is_read}
use Rattle.tb_sectors.proofs.laws.closed_is_read.Goals as goal

pub returns : goal.returns
returns c = closed_is_read

use Rattle.tb_sectors.proofs.ClosedWrites.{closed_created_is_written}
use Rattle.tb_sectors.proofs.laws.closed_created_is_written.Goals as goal

pub returns : goal.returns
returns c = closed_created_is_written

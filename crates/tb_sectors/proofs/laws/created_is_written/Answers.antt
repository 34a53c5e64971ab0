use Rattle.tb_sectors.proofs.ClosedWrites.{created_is_written}
use Rattle.tb_sectors.proofs.laws.created_is_written.Goals as goal

pub returns : goal.returns
returns c = created_is_written

use Rattle.tb_sectors.proofs.ClosedWrites.{closed_batch_is_written}
use Rattle.tb_sectors.proofs.laws.closed_batch_is_written.Goals as goal

pub returns : goal.returns
returns c = closed_batch_is_written

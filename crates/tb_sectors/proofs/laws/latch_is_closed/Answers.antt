use Rattle.tb_sectors.proofs.Closings.{latch_is_closed}
use Rattle.tb_sectors.proofs.laws.latch_is_closed.Goals as goal

pub returns : goal.returns
returns c = latch_is_closed

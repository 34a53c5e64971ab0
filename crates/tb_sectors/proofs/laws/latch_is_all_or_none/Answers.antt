use Rattle.tb_sectors.proofs.Latches.{latch_is_all_or_none}
use Rattle.tb_sectors.proofs.laws.latch_is_all_or_none.Goals as goal

pub returns : goal.returns
returns c = latch_is_all_or_none

use Rattle.tb_sectors.proofs.Latches.{behind_latch_nothing_counts}
use Rattle.tb_sectors.proofs.laws.behind_latch_nothing_counts.Goals as goal

pub returns : goal.returns
returns c = behind_latch_nothing_counts

use Rattle.tb_ledger.proofs.MeaningLaws.{settles_both}
use Rattle.tb_ledger.proofs.laws.posts_and_voids_settle.Goals as goal

pub returns : goal.returns
returns c = settles_both

use Rattle.tb_sectors.proofs.Journals.{crash_leaves_all_or_none}
use Rattle.tb_sectors.proofs.laws.crash_leaves_all_or_none.Goals as goal

pub returns : goal.returns
returns c = crash_leaves_all_or_none

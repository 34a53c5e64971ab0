use Rattle.tb_machine.proofs.IdsRising.{ids_rise_after, posts_and_voids_settle}
use Rattle.tb_machine.proofs.laws.posts_and_voids_settle.Goals as goal

pub returns-clause-ids_rise : goal.returns-clause-ids_rise
returns-clause-ids_rise c = ids_rise_after

pub returns-clause-settle : goal.returns-clause-settle
returns-clause-settle c = posts_and_voids_settle

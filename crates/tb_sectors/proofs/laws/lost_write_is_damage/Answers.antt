use Rattle.tb_sectors.proofs.Losses.{lost_write_is_damage}
use Rattle.tb_sectors.proofs.laws.lost_write_is_damage.Goals as goal

pub returns : goal.returns
returns c = lost_write_is_damage

use Rattle.tb_sectors.proofs.Losses.{rot_is_damage}
use Rattle.tb_sectors.proofs.laws.rot_is_damage.Goals as goal

pub returns : goal.returns
returns c = rot_is_damage

use Rattle.tb_embed.proofs.Following.{one_status}
use Rattle.tb_embed.proofs.laws.one_status.Goals as goal

pub returns : goal.returns
returns c = one_status

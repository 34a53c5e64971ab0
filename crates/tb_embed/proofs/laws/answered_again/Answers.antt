use Rattle.tb_embed.proofs.Repeats.{answered_again}
use Rattle.tb_embed.proofs.laws.answered_again.Goals as goal

pub returns : goal.returns
returns c = answered_again

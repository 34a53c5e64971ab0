use Rattle.tb_embed.proofs.Following.{calls_make_history}
use Rattle.tb_embed.proofs.laws.calls_make_history.Goals as goal

pub returns : goal.returns
returns c = calls_make_history

use Rattle.tb_embed.proofs.Frames.{whole_frame}
use Rattle.tb_embed.proofs.laws.frames_are_not_malformed.Goals as goal

pub returns : goal.returns
returns c = whole_frame

use Rattle.std.proofs.Common.{inl, inr, refl}
use Rattle.tb_edge_file.proofs.follower.send_replies.Goals as goal

pub returns-in-Ok-finish : goal.returns-in-Ok-finish
returns-in-Ok-finish g c = rw c.in-Err.is (inl (refl, c.in-Ok-finish.ensures.sent))

pub returns-in-Err-finish : goal.returns-in-Err-finish
returns-in-Err-finish g c = rw c.in-Err.is (inr (refl, c.in-Err-finish.ensures.sent.1))

use Rattle.std.proofs.Common.{rules}
use Rattle.tb_log.proofs.followers.Follower.begin.Goals as goal

pub returns : goal.returns
returns g c = search rules

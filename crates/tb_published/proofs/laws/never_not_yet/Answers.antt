use Rattle.tb_published.proofs.Answering.{never_not_yet}
use Rattle.tb_published.proofs.laws.never_not_yet.Goals as goal

pub returns : goal.returns
returns c = never_not_yet

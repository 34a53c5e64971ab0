use Rattle.tb_published.proofs.Prefixes.{prefix_either}
use Rattle.tb_published.proofs.laws.one_history.Goals as goal

pub returns : goal.returns
returns c = λ whole xs ys p q. prefix_either xs ys whole p q

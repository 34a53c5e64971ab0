use Rattle.std.proofs.Common.{◌≡◌}
use Rattle.tb_published.proofs.publisher.Publisher.offer_all.Given as goal

abbrev pub invariant-loop-n : goal.invariant-loop-n
invariant-loop-n g l = l.self ≡ l.initial.self

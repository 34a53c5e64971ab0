use Rattle.std.proofs.Common.{◌≡◌}
use Rattle.tb_test_refusals.proofs.offering.offer_by_turns.Given as goal

-- both ports stay ports of their service
abbrev pub invariant-loop-pair : goal.invariant-loop-pair
invariant-loop-pair g l = (l.first.service ≡ l.initial.first.service) × (l.second.service ≡ l.initial.second.service)

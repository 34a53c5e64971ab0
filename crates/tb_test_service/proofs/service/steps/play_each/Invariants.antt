use Rattle.std.proofs.Common.{◌≡◌}
use Rattle.tb_test_service.proofs.service.steps.play_each.Given as goal

-- both ports stay those of their services
abbrev pub invariant-loop-step : goal.invariant-loop-step
invariant-loop-step g l = (l.first.service ≡ l.initial.first.service) × (l.second.service ≡ l.initial.second.service)

use Rattle.std.proofs.Common.{ℕ, ◌+◌, refl, sym, ap}
use Rattle.tb_machine.proofs.FirstCause.{is_cause}
use Rattle.tb_machine.proofs.restoring.restore.Goals as goal

pub returns-in-Some : goal.returns-in-Some
returns-in-Some g c = (refl, ap (λ (n : ℕ). n + 1) c.commit-place.ensures.value, is_cause c.args.machine.now c.args.entry c.in-Some.cause (sym c.in-Some.ensures))

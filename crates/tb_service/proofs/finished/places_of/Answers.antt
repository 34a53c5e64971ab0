use Rattle.std.proofs.Common.{ℕ, Vec, Global, ap, ◌∙◌}
use Rattle.tb_service.proofs.OwnPlaces.{place_added, place_passed}
use Rattle.tb_service.proofs.finished.places_of.Goals as goal
use Rattle.tb_service.proofs.finished.places_of.Goals.{then-owner-port+in_ok-push, else-owner-port}

pub loop-at-preserved : goal.loop-at-preserved
loop-at-preserved c = elim c.if-owner-port.branch [
  | then-owner-port+in_ok-push w ↦ place_added c.args.port c.loop-at.at c.args.ports.now c.loop-at.places.items c.if-owner-port.places.items c.loop-at-test.true c.loop-at.invariant
      w.if-owner-port.true (ap (λ (v : Vec ℕ Global). v.items) w.places-is ∙ w.in_ok-push.ensures.items)
  | else-owner-port w ↦ place_passed c.args.port c.loop-at.at c.args.ports.now c.loop-at.places.items c.if-owner-port.places.items c.loop-at-test.true c.loop-at.invariant
      w.if-owner-port.false (ap (λ (v : Vec ℕ Global). v.items) w.places-is)
]

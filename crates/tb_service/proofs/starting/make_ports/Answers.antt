use Rattle.std.proofs.Common.{◌+◌, ℕ, List, [], ◌∷◌, length, ap, sym, subst, ◌∙◌, length-append, arith}
use Rattle.tb_service.specs.Names.{service_of}
use Rattle.tb_service.specs.Ports.{Offers, AreNumbered}
use Rattle.tb_service.proofs.OwnPlaces.{numbered-snoc}
use Rattle.tb_service.proofs.starting.make_ports.Goals as goal

pub loop-number-preserved : goal.loop-number-preserved
loop-number-preserved c =
    let so_far = c.loop-number.invariant in
    let made = c.in_ok-port.ensures in
    let port = c.in_ok-port.port in
    let ports = c.loop-number.ports.items in
    let name = service_of c.args.inbox.now.pass in
    let items = c.in_ok-push.ensures.items in
    record {
      numbered = subst (λ (l : List Offers). AreNumbered name 0 l) (sym items)
          (numbered-snoc name 0 c.loop-number.number ports port so_far.numbered (omega (arith, so_far.count)) (made.port.2 ∙ so_far.named) made.port.1 made.port.0);
      count = ap length items ∙ length-append ports (port ∷ []) ∙ ap (λ (n : ℕ). n + 1) so_far.count;
      made = made.more ∙ ap (λ (n : ℕ). n + 1) so_far.made;
      taken = made.same.0 ∙ so_far.taken;
      named = made.same.1 ∙ so_far.named;
    }

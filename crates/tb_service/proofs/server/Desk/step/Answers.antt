use Rattle.std.proofs.Common.{refl}
use Rattle.crossbeam_channel.specs.Claims.{view}
use Rattle.tb_service.proofs.Serving.{places_after, orders_none, orders_one}
use Rattle.tb_service.proofs.server.Desk.step.Goals as goal

pub returns-then-is_over-clause-served : goal.returns-then-is_over-clause-served
returns-then-is_over-clause-served g c =
    let desk = c.args.self.now in
    orders_none g.J.Naming.opening g.M.Moments.tells g.G.Gate.passes desk.inbox.pass desk.inbox.pass desk.clerk desk.clerk refl refl refl refl refl

pub returns-then-is_err-clause-served : goal.returns-then-is_err-clause-served
returns-then-is_err-clause-served g c =
    let desk = c.args.self.now in
    let same = c.reserve.ensures.same in
    orders_none g.J.Naming.opening g.M.Moments.tells g.G.Gate.passes desk.inbox.pass desk.inbox.pass desk.clerk c.reserve.new.self refl refl refl same.0 same.2

pub returns-in_err-order-clause-served : goal.returns-in_err-order-clause-served
returns-in_err-order-clause-served g c =
    let desk = c.args.self.now in
    let took = c.in_err-order.ensures in
    let same = c.reserve.ensures.same in
    orders_none g.J.Naming.opening g.M.Moments.tells g.G.Gate.passes desk.inbox.pass c.take.new.self.pass desk.clerk c.reserve.new.self took.taken took.same.0 took.same.1 same.0 same.2

pub invariant_of-self-2 : goal.invariant_of-self-2
invariant_of-self-2 g c =
    let desk = c.args.self.now in
    record {
      places = places_after (view desk.inbox.pass).taken (view c.take.new.self.pass).taken c.in_ok-order.order desk.clerk.ports.items c.reserve.new.self.ports.items c.serve_order.new.self.ports.items c.show.new.self.ports.items
          desk.places c.in_ok-order.ensures.taken c.reserve.ensures.same.1 c.serve_order.ensures.ports c.show.ensures.same.1;
    }

pub returns-clause-served : goal.returns-clause-served
returns-clause-served g c =
    let desk = c.args.self.now in
    let took = c.in_ok-order.ensures in
    let same = c.reserve.ensures.same in
    orders_one g.J.Naming.opening g.M.Moments.tells g.G.Gate.passes desk.inbox.pass c.take.new.self.pass c.in_ok-order.order desk.clerk c.reserve.new.self c.serve_order.new.self c.show.new.self
    took.taken took.owned took.same.0 took.same.1 same.0 same.1 same.2 c.serve_order.ensures.served c.show.ensures.same.0 c.show.ensures.same.2

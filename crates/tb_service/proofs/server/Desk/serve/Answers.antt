use Rattle.std.proofs.Common.{refl}
use Rattle.tb_service.proofs.Serving.{orders_none, orders_more}
use Rattle.tb_service.proofs.server.Desk.serve.Goals as goal

pub loop-init : goal.loop-init
loop-init g c =
    let desk = c.args.self.now in
    orders_none g.J.Naming.opening g.M.Moments.tells g.G.Gate.passes desk.inbox.pass desk.inbox.pass desk.clerk desk.clerk refl refl refl refl refl

pub returns-in-Some-step-clause-served : goal.returns-in-Some-step-clause-served
returns-in-Some-step-clause-served g c =
    let first = c.args.self.now in
    let before = c.loop.self in
    let after = c.step.new.self in
    orders_more g.J.Naming.opening g.M.Moments.tells g.G.Gate.passes first.inbox.pass before.inbox.pass after.inbox.pass first.clerk before.clerk after.clerk first.places before.places c.loop.invariant c.step.ensures.served

pub loop-preserved : goal.loop-preserved
loop-preserved g c =
    let first = c.args.self.now in
    let before = c.loop.self in
    let after = c.step.new.self in
    orders_more g.J.Naming.opening g.M.Moments.tells g.G.Gate.passes first.inbox.pass before.inbox.pass after.inbox.pass first.clerk before.clerk after.clerk first.places before.places c.loop.invariant c.step.ensures.served

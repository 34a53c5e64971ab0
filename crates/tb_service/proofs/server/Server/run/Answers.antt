use Rattle.std.proofs.Common.{ap, refl, subst, ◌∙◌}
use Rattle.crossbeam_channel.specs.Claims.{Pass, view}
use Rattle.tb_service.specs.declared.orders.Order.{Order}
use Rattle.tb_service.specs.declared.rule.View.{View}
use Rattle.tb_service.specs.Places.{requests, ports, HaveOwners}
use Rattle.tb_service.specs.Servers.{Start, Finishes}
use Rattle.tb_service.proofs.Serving.{finishes, owners_of}
use Rattle.tb_service.proofs.server.Server.run.Goals as goal

pub returns-clause-served : goal.returns-clause-served
returns-clause-served g c =
    let before = c.self.inside.desk in
    let after = c.serve-ended.new.self in
    let left = c.new.result in
    subst (λ (start : Start _ _). Finishes g.J.Naming.opening g.M.Moments.tells g.G.Gate.passes start.state left.taken left.refused left.publisher.history) c.self.view_is
    (finishes g.J.Naming.opening g.M.Moments.tells g.G.Gate.passes before.inbox.pass after.inbox.pass before.clerk after.clerk _ _ _
    c.self.invariant.0 before.places c.self.invariant.1 c.serve-ended.ensures.served
    (c.new.ensures.pass.0 ∙ ap (λ (p : Pass Order View). requests (view p).taken) c.stop-sender.ensures.same)
    c.new.ensures.parts.2 (cc (c.new.ensures.parts.0, c.into_publisher.ensures)))

pub returns-clause-ports : goal.returns-clause-ports
returns-clause-ports g c =
    let before = c.self.inside.desk in
    let after = c.serve-ended.new.self in
    let left = c.new.result in
    subst (λ (start : Start _ _). HaveOwners start.port_count left.taken left.owners) c.self.view_is
    (owners_of g.J.Naming.opening g.M.Moments.tells g.G.Gate.passes before.inbox.pass after.inbox.pass before.clerk after.clerk _ _ _
    c.self.invariant.0 refl c.serve-ended.ensures.served
    (c.new.ensures.pass.0 ∙ ap (λ (p : Pass Order View). requests (view p).taken) c.stop-sender.ensures.same)
    (c.new.ensures.pass.1 ∙ ap (λ (p : Pass Order View). ports (view p).taken) c.stop-sender.ensures.same))

use Rattle.tb_service.specs.private.Desks.{ServesOrders}
use Rattle.tb_service.proofs.server.Desk.serve.Given as goal

abbrev pub invariant-loop : goal.invariant-loop
invariant-loop g l = ServesOrders g.J.Naming.opening g.M.Moments.tells g.G.Gate.passes l.initial.self.inbox.pass l.initial.self.clerk l.self.inbox.pass l.self.clerk

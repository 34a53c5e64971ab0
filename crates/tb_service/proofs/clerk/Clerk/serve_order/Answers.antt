use Rattle.std.proofs.Common.{◌+◌, List, length, sym, ap, subst}
use Rattle.tb_records.specs.Messages.{Message}
use Rattle.tb_service.specs.Sent.{requests_in}
use Rattle.tb_service.specs.Clerks.{server_state}
use Rattle.tb_service.specs.History.{ServesOn}
use Rattle.tb_service.proofs.Turns.{serves_on_none}
use Rattle.tb_service.proofs.clerk.Clerk.serve_order.Goals as goal

pub returns-in-Close-clause-served : goal.returns-in-Close-clause-served
returns-in-Close-clause-served g c =
    let clerk = c.args.self.now in
    subst (λ (l : List Message). ServesOn g.J.Naming.opening g.M.Moments.tells g.G.Gate.passes (server_state clerk) (length clerk.ports.items + 1) l clerk.refused.items clerk.refused.items (server_state clerk))
    (sym (ap requests_in c.in-Close.is))
    (serves_on_none g.J.Naming.opening g.M.Moments.tells g.G.Gate.passes (server_state clerk) (length clerk.ports.items + 1) clerk.refused.items)

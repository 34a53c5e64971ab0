use Rattle.std.proofs.Common.{refl}
use Rattle.tb_edge_storm.specs.Calls.{accounts_call}
use Rattle.tb_edge_storm.proofs.Steps.{on_ok, plays_once}
use Rattle.tb_edge_storm.proofs.clients.Client.make_accounts.Goals as goal

pub returns : goal.returns
returns g c =
    on_ok c.call-2.result
    (λ r. plays_once g.J.Naming.opening (accounts_call c.args.clients) c.in_ok-body.body c.args.self.now c.call.new.self c.call-2.new.self c.in_ok-body.ensures refl c.in_default.ensures r)
    c.call-2.ensures

use Rattle.tb_edge_storm.proofs.Steps.{on_ok, plays_transfers}
use Rattle.tb_edge_storm.proofs.clients.Client.make_transfers.Goals as goal

pub returns-clause-plays : goal.returns-clause-plays
returns-clause-plays g c =
    on_ok c.create_all.result
    (λ on. plays_transfers g.J.Naming.opening c.args.transfers c.args.self.now c.call.new.self c.create_all.new.self c.in_default.ensures on)
    c.create_all.ensures.on

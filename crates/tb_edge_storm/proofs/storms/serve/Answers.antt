use Rattle.tb_service.proofs.Owners.{none_invented}
use Rattle.tb_edge_storm.proofs.storms.serve.Goals as goal

pub returns-clause-run : goal.returns-clause-run
returns-clause-run g c offered claims =
    let run = c.run-finished in
    let finish = run.result in
    none_invented g.J.Naming.opening g.M.Moments.tells g.G.Gate.passes c.args.server.state finish.taken finish.owners finish.refused finish.publisher.history c.args.server.port_count offered finish.ended
    run.ensures.served run.ensures.ports claims

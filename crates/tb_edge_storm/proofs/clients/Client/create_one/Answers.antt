use Rattle.std.proofs.Common.{arith}
use Rattle.tb_edge_storm.proofs.Steps.{on_ok, goes_one, returns_grows}
use Rattle.tb_edge_storm.proofs.clients.Client.create_one.Goals as goal

pub returns-clause-on : goal.returns-clause-on
returns-clause-on g c =
    on_ok c.repeat.result
    (λ r. goes_one g.J.Naming.opening c.args.done c.in_ok-body.body c.args.self.now c.call.new.self c.repeat.new.self c.in_ok-body.ensures c.in_default.ensures r)
    c.repeat.ensures.repeats

pub returns-clause-repeats : goal.returns-clause-repeats
returns-clause-repeats g c =
    on_ok c.repeat.result
    (λ count. omega (arith, count, returns_grows g.J.Naming.opening c.in_ok-body.body c.args.self.now c.call.new.self c.in_default.ensures))
    c.repeat.ensures.count

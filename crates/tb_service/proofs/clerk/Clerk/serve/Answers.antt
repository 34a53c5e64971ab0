use Rattle.std.proofs.Common.{◌≡◌, ◌+◌, length, arith}
use Rattle.std.proofs.lemmas.Grind.{common_steps}
use Rattle.tb_service.specs.Clerks.{server_state}
use Rattle.tb_service.proofs.Turns.{serves_on_kept, serves_on_refused}
use Rattle.tb_service.proofs.clerk.Clerk.serve.Goals as goal

pub returns-in-Some-clause-served : goal.returns-in-Some-clause-served
returns-in-Some-clause-served g c =
    let clerk = c.args.self.now in
    let place : c.len-place.result ≡ length clerk.ports.items + 1 = grind (arith, common_steps) in
    serves_on_refused g.J.Naming.opening g.M.Moments.tells g.G.Gate.passes (server_state clerk) _ (length clerk.ports.items + 1) c.len-place.result c.now-now.result c.args.request c.in-Some.fault
    clerk.refused.items c.push_reserved-in-Some.new.self.items place c.push_reserved-in-Some.ensures.items c.in-Some.ensures c.now-now.ensures c.pass.ensures

pub returns-in_default-clause-served : goal.returns-in_default-clause-served
returns-in_default-clause-served g c =
    let clerk = c.args.self.now in
    let place : c.len-place.result ≡ length clerk.ports.items + 1 = grind (arith, common_steps) in
    serves_on_kept g.J.Naming.opening g.M.Moments.tells g.G.Gate.passes (server_state clerk) _ (length clerk.ports.items + 1) c.len-place.result c.now-now.result c.args.request
    clerk.refused.items place c.in_default.ensures c.now-now.ensures c.pass.ensures

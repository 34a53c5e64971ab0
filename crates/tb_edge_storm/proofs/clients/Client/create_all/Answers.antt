use Rattle.std.proofs.Common.{◌≡◌, ℕ, ◌+◌, subst, arith}
use Rattle.tb_edge_storm.specs.private.Clients.{TransfersMore}
use Rattle.tb_edge_storm.proofs.Steps.{goes_none, goes_more, one_repeat}
use Rattle.tb_edge_storm.proofs.clients.Client.create_all.Goals as goal

pub loop-done-init : goal.loop-done-init
loop-done-init g c = record { on = goes_none g.J.Naming.opening c.args.self.now; offers = omega arith }

pub loop-done-preserved : goal.loop-done-preserved
loop-done-preserved g c =
    let so_far = c.loop-done.invariant in
    let one = c.in_default.ensures in
    record {
      on = goes_more g.J.Naming.opening c.loop-done.done c.args.self.now c.loop-done.self c.create_one.new.self so_far.on one.on;
      offers = omega (arith, so_far.offers, one.repeats, one_repeat (c.loop-done.done + 1));
    }

pub returns-clause-on : goal.returns-clause-on
returns-clause-on g c =
    let all : c.loop-done.done ≡ c.args.transfers = omega arith in
    subst (λ (n : ℕ). TransfersMore g.J.Naming.opening 0 n c.args.self.now c.loop-done.self) all c.loop-done.invariant.on

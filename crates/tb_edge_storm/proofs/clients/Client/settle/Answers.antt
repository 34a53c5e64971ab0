use Rattle.std.proofs.Common.{subst, ◌∙◌}
use Rattle.tb_caller.specs.declared.callers.Heard.{Heard}
use Rattle.tb_caller.specs.declared.callers.Heard.TheVariants as hearing
use Rattle.tb_edge_storm.specs.private.Clients.{Hears}
use Rattle.tb_edge_storm.proofs.Steps.{waits_on, hears_on, still_refused, still_other}
use Rattle.tb_edge_storm.proofs.clients.Client.settle.Goals as goal
use Rattle.tb_edge_storm.proofs.clients.Client.settle.Goals.{in-Refused, in-Other}

pub returns-in-Returned : goal.returns-in-Returned
returns-in-Returned g c =
    let o = g.J.Naming.opening in
    hears_on o hearing.Returned c.args.self.now c.loop.self c.ask.new.self c.loop.invariant.same c.loop.invariant.waits
    (subst (λ (h : Heard). Hears o h c.loop.self c.ask.new.self) c.in-Returned.is c.in_ok-ask.ensures)

pub loop-preserved : goal.loop-preserved
loop-preserved g c =
    let o = g.J.Naming.opening in
    let so_far = c.loop.invariant in
    elim c.match-branch-2.branch [
      | in-Refused w ↦
          let hears = subst (λ (h : Heard). Hears o h c.loop.self c.ask.new.self) w.in-Refused.is c.in_ok-ask.ensures in
          record { waits = waits_on c.args.self.now c.loop.self c.ask.new.self so_far.same so_far.waits hears.waits; same = still_refused o c.loop.self c.ask.new.self hears ∙ so_far.same }
      | in-Other w ↦
          let hears = subst (λ (h : Heard). Hears o h c.loop.self c.ask.new.self) w.in-Other.is c.in_ok-ask.ensures in
          record { waits = waits_on c.args.self.now c.loop.self c.ask.new.self so_far.same so_far.waits hears.waits; same = still_other o c.loop.self c.ask.new.self hears ∙ so_far.same }
    ]

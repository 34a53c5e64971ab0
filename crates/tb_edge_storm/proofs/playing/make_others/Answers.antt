use Rattle.std.proofs.Common.{rules, ◌≡◌, ℕ, ◌+◌, List, [], sym, subst, arith}
use Rattle.tb_edge_storm.specs.declared.clients.Client.{Client}
use Rattle.tb_edge_storm.proofs.Ready.{SoFar, so_far_none, so_far_more, all_made}
use Rattle.tb_edge_storm.proofs.playing.make_others.Goals as goal

pub loop-made-init : goal.loop-made-init
loop-made-init g c name these =
    let nobody : c.new-others.result.items ≡ [] = search rules in
    subst (λ (l : List (Client g.row.J.Denot)). SoFar name c.args.count 0 c.args.ports.now.items l) (sym nobody) (so_far_none name c.args.count c.args.ports.now.items these)

pub loop-made-preserved : goal.loop-made-preserved
loop-made-preserved g c name these =
    subst (λ (l : List (Client g.row.J.Denot)). SoFar name c.args.count (c.loop-made.made + 1) c.next_client.new.ports.items l) (sym c.in_ok-push.ensures.items)
    (so_far_more name c.args.count c.loop-made.made c.loop-made.ports.items c.next_client.new.ports.items c.loop-made.others.items c.in_ok-client.client
    (c.loop-made.invariant name these) c.in_ok-client.ensures)

pub returns : goal.returns
returns g c name these =
    let all : c.loop-made.made ≡ c.args.count = omega arith in
    all_made name c.args.count c.loop-made.ports.items c.loop-made.others.items
    (subst (λ (n : ℕ). SoFar name c.args.count n c.loop-made.ports.items c.loop-made.others.items) all (c.loop-made.invariant name these))

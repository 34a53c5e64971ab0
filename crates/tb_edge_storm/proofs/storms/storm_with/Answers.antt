use Rattle.std.proofs.Common.{ℕ, ◌+◌, List, sym, subst}
use Rattle.tb_machine.specs.declared.entries.Entry.{Entry}
use Rattle.tb_service.specs.Names.{Name}
use Rattle.tb_edge_storm.specs.private.Playing.{HasRun, HaveMade}
use Rattle.tb_edge_storm.proofs.Steps.{if_ok}
use Rattle.tb_edge_storm.proofs.Played.{played, served_by}
use Rattle.tb_edge_storm.proofs.storms.storm_with.Goals as goal

pub settle-told-requires : goal.settle-told-requires
settle-told-requires g c =
    subst (λ (n : Name). HaveMade g.J.Naming.opening n c.args.scale.clients c.args.scale.transfers c.join-finished.result.1) (sym c.join-finished.ensures.first.1)
    (c.join-finished.ensures.second c.args.server.service c.requires.ready)

pub returns : goal.returns
returns g c =
    let finish = c.join-finished.result.0 in
    let run =
    subst (λ (n : ℕ). HasRun n c.args.server.state.history finish) c.requires.ports c.join-finished.ensures.first.0 in
    let fresh = subst (λ (h : List Entry). HasRun (c.args.scale.clients + 1) h finish) c.requires.begins run in
    if_ok c.settle-told.result
    (λ totals e. record {
      history = finish.publisher.history;
      whole = e.whole;
      enough = e.enough;
      served = served_by g.J.Naming.opening c.args.scale.clients c.args.scale.transfers finish fresh e.left;
      played = played g.J.Naming.opening c.args.scale.clients c.args.scale.transfers finish c.args.scale.few fresh e.whole.legal e.left;
    })
    c.settle-told.ensures.well

use Rattle.std.proofs.Common.{List, sym, subst, ◌∙◌}
use Rattle.tb_edge_storm.specs.declared.clients.Client.{Client}
use Rattle.tb_edge_storm.specs.private.Playing.{HaveNoFault}
use Rattle.tb_edge_storm.proofs.Ready.{no_fault, learnt_made}
use Rattle.tb_edge_storm.proofs.storms.settle.Goals as goal

pub take_in_all-requires-clause-made : goal.take_in_all-requires-clause-made
take_in_all-requires-clause-made g c =
    learnt_made g.J.Naming.opening c.args.finished.now.service c.args.scale.clients c.args.scale.transfers c.args.clients.now c.report.new.clients c.requires c.report.ensures.learnt

pub take_in_all-requires-clause-first : goal.take_in_all-requires-clause-first
take_in_all-requires-clause-first g c =
    c.report.ensures.learnt.fault_is ∙ (no_fault c.args.clients.now.first.fault c.args.clients.now.others.items c.in-Ok.ensures.well).0

pub take_in_all-requires-clause-others : goal.take_in_all-requires-clause-others
take_in_all-requires-clause-others g c =
    subst (λ (l : List (Client g.row.J.Denot)). HaveNoFault l) (sym c.report.ensures.learnt.others_are)
    (no_fault c.args.clients.now.first.fault c.args.clients.now.others.items c.in-Ok.ensures.well).1

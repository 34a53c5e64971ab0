use Rattle.std.proofs.Common.{List, subst}
use Rattle.tb_service.specs.Finished.{Finish}
use Rattle.tb_edge_storm.specs.declared.clients.Client.{Client}
use Rattle.tb_edge_storm.specs.private.Playing.{AreServedBy}
use Rattle.tb_edge_storm.proofs.Steps.{on_ok}
use Rattle.tb_edge_storm.proofs.Ready.{are_left}
use Rattle.tb_edge_storm.proofs.playing.take_in_all.Goals as goal

pub returns-clause-left : goal.returns-clause-left
returns-clause-left g c =
    on_ok c.take_in_each.result
    (λ others.
    are_left g.J.Naming.opening c.args.finished.now.service c.args.scale.clients c.args.scale.transfers c.args.finished.now c.args.clients.now c.requires.made c.requires.first c.requires.others
    c.in_default.ensures.served
    (subst (λ (f : Finish). AreServedBy f c.args.clients.now.others.items) c.take_in.ensures.same
    (subst (λ (l : List (Client g.row.J.Denot)). AreServedBy c.take_in.new.finished l) c.as_mut_slice.ensures.value others)))
    c.take_in_each.ensures.served

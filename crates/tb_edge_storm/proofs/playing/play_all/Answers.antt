use Rattle.std.proofs.Common.{List, sym, subst, ◌∙◌}
use Rattle.std.specs.Vec.{with_items}
use Rattle.std.proofs.lemmas.List.{with_items_is}
use Rattle.tb_edge_storm.specs.declared.clients.Client.{Client}
use Rattle.tb_edge_storm.specs.private.Playing.{AreClosed}
use Rattle.tb_edge_storm.proofs.Ready.{all_closed}
use Rattle.tb_edge_storm.proofs.playing.play_all.Goals as goal

pub returns : goal.returns
returns g c service ready =
    let before = c.create_all.new.clients.others in
    let after = c.close_each.new.clients in
    let whole = with_items_is before after (c.close_each.ensures.count_is ∙ c.as_mut_slice.ensures.len) in
    all_closed g.J.Naming.opening service c.args.scale.clients c.args.scale.transfers c.create_all.new.clients (record { first = c.close.new.self; others = with_items before after })
    (c.create_all.ensures service ready) c.close.ensures
    (subst (λ (l : List (Client g.row.J.Denot)). AreClosed before.items l) (sym whole)
    (subst (λ (l : List (Client g.row.J.Denot)). AreClosed l after) c.as_mut_slice.ensures.value c.close_each.ensures))

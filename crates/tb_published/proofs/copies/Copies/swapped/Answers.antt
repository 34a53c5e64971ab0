use Rattle.std.proofs.Common.{drop, subst, sym}
use Rattle.left_right.specs.Sides.{view}
use Rattle.tb_published.specs.private.PostedEntries.{TwoCopies, FollowsPrefix}
use Rattle.tb_published.specs.private.Sharing.{Swapped}
use Rattle.tb_published.proofs.Shown.{turns, swapped}
use Rattle.tb_published.proofs.copies.Copies.swapped.Goals as goal

pub publish_as-writer-requires : goal.publish_as-writer-requires
publish_as-writer-requires g c =
    let writer = c.self.inside.writer in
    turns writer.desk.place.id (view writer.desk.place) writer.desk.shown.value (drop writer.behind writer.log.items)
    (subst (λ (copies : TwoCopies). FollowsPrefix copies.shown copies.posted) (sym c.self.view_is) c.requires)

pub returns : goal.returns
returns g c =
    let before = c.self.inside.writer in
    let result = c.publish_as-writer.result.1 in
    let after = c.publish_as-writer.result.0 in
    let left : TwoCopies = record { shown = after.desk.shown.value; posted = drop after.behind after.log.items; seen = view after.desk.place } in
    subst (λ (copies : TwoCopies). Swapped result copies left) c.self.view_is
    (swapped result before.desk.shown.value (drop before.behind before.log.items) (view before.desk.place) left.shown left.posted left.seen
    (subst (λ (copies : TwoCopies). FollowsPrefix copies.shown copies.posted) (sym c.self.view_is) c.requires) c.publish_as-writer.ensures.values c.publish_as-writer.ensures.rule)

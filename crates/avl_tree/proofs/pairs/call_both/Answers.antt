use Rattle.std.proofs.Common.{refl}
use Rattle.avl_tree.proofs.pairs.call_both.Goals as goal

pub returns-then-in_order-clause-called : goal.returns-then-in_order-clause-called
returns-then-in_order-clause-called g c =
    let order = c.if-in_order.true in
    rw order (record { first = _; second = _; shows = (refl, refl); left = _; called = c.f.ensures; leaves = (refl, refl) })

pub returns-else-in_order-clause-called : goal.returns-else-in_order-clause-called
returns-else-in_order-clause-called g c =
    let order = c.if-in_order.false in
    rw order (record { first = _; second = _; shows = (refl, refl); left = _; called = c.f-else-in_order.ensures; leaves = (refl, refl) })

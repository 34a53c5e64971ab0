use Rattle.std.proofs.Common.{arith}
use Rattle.left_right.specs.Sides.{view}
use Rattle.tb_published.proofs.Shown.{looks, shorter_begins}
use Rattle.tb_published.proofs.seat.enter.Goals as goal

pub enter_as-requires : goal.enter_as-requires
enter_as-requires g c = looks c.args.place.place.id (view c.args.place.place)

pub returns-clause-begins : goal.returns-clause-begins
returns-clause-begins g c =
    rw c.again-shown.ensures (shorter_begins c.args.front.now c.front-shown.result.now c.agrees_with.ensures (omega (arith, c.if-len.false, c.len.ensures.count, c.len-2.ensures.count)))

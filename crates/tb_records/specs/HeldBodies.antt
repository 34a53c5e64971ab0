-- The body that a request holds, by itself or shared with its copies.
use Rattle.std.specs.Arc.{arc_value}
use Rattle.tb_records.specs.declared.bodies.Body.{Body}
use Rattle.tb_records.specs.declared.held_bodies.HeldBody.{HeldBody}
use Rattle.tb_records.specs.declared.held_bodies.HeldBody.TheVariants.{Own, Shared}

abbrev pub body_of : HeldBody → Body
body_of (Own body) = body
body_of (Shared body) = arc_value body

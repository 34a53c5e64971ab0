-- The class of a request by its client's row, as proofs cite it.
use Rattle.std.specs.Prelude.{Option, if◌then◌else◌}
use Rattle.std.specs.Option.{option_map_or}
use Rattle.tb_records.specs.Messages.{Message, is_register}
use Rattle.tb_sessions.specs.declared.classes.Class.{Class}
use Rattle.tb_sessions.specs.declared.classes.Class.TheVariants.{New, NoSession}
use Rattle.tb_sessions.specs.declared.rows.Row.{Row}
use Rattle.tb_sessions.specs.Judged.{class_beside}

abbrev pub class_by : Option Row → Message → Class
class_by row r = option_map_or (λ row. class_beside row r) row (if is_register r.body then New else NoSession)

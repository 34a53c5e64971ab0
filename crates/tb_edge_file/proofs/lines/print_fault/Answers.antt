use Rattle.std.proofs.Common.{refl}
use Rattle.tb_edge_file.proofs.Passing.{said}
use Rattle.tb_edge_file.proofs.lines.print_fault.Goals as goal

pub returns : goal.returns
returns g c = said _ _ c.put_line.result _ _ _ refl c.put_line.ensures c.pass.ensures

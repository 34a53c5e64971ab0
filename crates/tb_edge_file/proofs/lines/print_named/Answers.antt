use Rattle.std.proofs.Common.{refl}
use Rattle.tb_edge_file.proofs.Passing.{said}
use Rattle.tb_edge_file.proofs.lines.print_named.Goals as goal

pub returns : goal.returns
returns g c = said _ _ c.put_path.result _ _ _ refl c.put_path.ensures c.pass.ensures

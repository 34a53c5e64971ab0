use Rattle.std.proofs.Common.{refl}
use Rattle.tb_edge_file.proofs.Passing.{said}
use Rattle.tb_edge_file.proofs.lines.print_ready.Goals as goal

pub returns-then-reports : goal.returns-then-reports
returns-then-reports g c = rw c.if-reports.true (said _ _ c.put_cut.result _ _ _ refl c.put_cut.ensures c.pass.ensures)

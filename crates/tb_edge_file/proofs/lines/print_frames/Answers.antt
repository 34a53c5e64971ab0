use Rattle.std.proofs.Common.{refl}
use Rattle.tb_edge_file.proofs.Passing.{said}
use Rattle.tb_edge_file.proofs.lines.print_frames.Goals as goal

pub returns-then-talks : goal.returns-then-talks
returns-then-talks g c = rw c.if-talks.true (said _ _ c.put_what.result _ _ _ refl c.put_what.ensures c.pass.ensures)

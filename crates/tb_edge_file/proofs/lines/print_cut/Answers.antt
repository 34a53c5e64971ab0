use Rattle.std.proofs.Common.{arith}
use Rattle.tb_edge_file.proofs.Passing.{cut_printed}
use Rattle.tb_edge_file.proofs.lines.print_cut.Goals as goal

pub returns-then-bytes-ne0 : goal.returns-then-bytes-ne0
returns-then-bytes-ne0 g c = cut_printed c.args.bytes c.args.at c.put_cut.result _ _ _ (omega arith) c.put_cut.ensures c.pass.ensures

use Rattle.tb_edge_commands.proofs.Written.{printed_by}
use Rattle.tb_edge_commands.proofs.lines.put_line.Goals as goal

pub returns : goal.returns
returns g c = printed_by c.put_all.result _ _ _ c.put_all.ensures

use Rattle.std.proofs.Common.{arith}
use Rattle.tb_edge_file.proofs.FirstBytes.{behind_is}
use Rattle.tb_edge_file.proofs.kinds.begins_at.Goals as goal

pub returns : goal.returns
returns c = behind_is c.args.at c.args.prefix.now c.args.bytes.now c.begins.result (omega arith) c.begins.ensures

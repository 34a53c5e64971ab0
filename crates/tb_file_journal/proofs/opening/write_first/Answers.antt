use Rattle.std.proofs.Common.{arith}
use Rattle.std.proofs.lemmas.Grind.{common_steps}
use Rattle.tb_file_journal.proofs.FirstWrite.{begun}
use Rattle.tb_file_journal.proofs.opening.write_first.Goals as goal

pub returns-clause-writes : goal.returns-clause-writes
returns-clause-writes g c t = grind (arith, common_steps, begun)

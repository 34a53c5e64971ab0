use Rattle.std.proofs.Common.{arith}
use Rattle.std.proofs.lemmas.Grind.{common_steps}
use Rattle.tb_file_journal.proofs.FirstWrite.{still_blank}
use Rattle.tb_file_journal.proofs.opening.begin.Goals as goal

pub returns-in_default-clause-any_moment : goal.returns-in_default-clause-any_moment
returns-in_default-clause-any_moment g c t = grind (arith, common_steps, still_blank)

use Rattle.std.proofs.lemmas.Grind.{common_steps}
use Rattle.std.proofs.Common.{arith}
use Rattle.tb_file_journal.specs.private.MemoryLaws.{torn_part}
use Rattle.tb_file_journal.proofs.memory.torn_write.Goals as goal

pub returns-clause-among : goal.returns-clause-among
returns-clause-among c = grind (arith, common_steps, torn_part)

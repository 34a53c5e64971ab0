use Rattle.tb_file_journal.proofs.Growths.{same_grown}
use Rattle.tb_file_journal.proofs.memory.MemoryGrowing.read_at.Goals as goal

pub returns-clause-bytes : goal.returns-clause-bytes
returns-clause-bytes c file held = same_grown (c.read_at.ensures.same file held) (c.read_at.ensures.bytes file held)

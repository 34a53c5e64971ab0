use Rattle.tb_file_journal.proofs.Growths.{same_grown}
use Rattle.tb_file_journal.proofs.posix.PosixGrowing.len.Goals as goal

pub returns-clause-bytes : goal.returns-clause-bytes
returns-clause-bytes g c file held = same_grown (c.len.ensures.same file held) (c.len.ensures.bytes file held)

use Rattle.tb_file_journal.specs.Memory.{memory_holds}
use Rattle.tb_edge_file.proofs.Lives.{looks_not, stays}
use Rattle.tb_edge_file.proofs.live.MemoryLive.refresh.Goals as goal

pub returns-clause-later : goal.returns-clause-later
returns-clause-later c file held = stays memory_holds _ file held

pub returns-clause-looks : goal.returns-clause-looks
returns-clause-looks c t = looks_not _

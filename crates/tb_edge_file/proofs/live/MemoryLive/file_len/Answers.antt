use Rattle.tb_edge_file.proofs.Lives.{whole_length}
use Rattle.tb_edge_file.proofs.live.MemoryLive.file_len.Goals as goal

pub returns-clause-extends : goal.returns-clause-extends
returns-clause-extends c file held = whole_length file c.len.result (c.len.ensures.bytes file held)

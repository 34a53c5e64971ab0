use Rattle.tb_edge_file.proofs.Lives.{shown_length}
use Rattle.tb_edge_file.proofs.live.SnapshotLive.file_len.Goals as goal

pub returns-clause-extends : goal.returns-clause-extends
returns-clause-extends g c = shown_length g.G.Growing.grows _ _ _ c.file_len.ensures.len

use Rattle.tb_file_journal.proofs.Finding.{grown_as, stays_held}
use Rattle.tb_file_journal.proofs.snapshots.Snapshot.file_len.Goals as goal

pub returns-clause-same : goal.returns-clause-same
returns-clause-same g c shown held = stays_held c.self.view_is held c.len.new.self (λ bytes is. grown_as (c.len.ensures.bytes bytes is) tt)

use Rattle.tb_file_journal.proofs.Finding.{grown_as, stays_held, reads_of_all, reads_of_blocks}
use Rattle.tb_file_journal.proofs.snapshots.SnapshotDevice.read_at.Goals as goal

pub returns-then-not-self-clause-bytes : goal.returns-then-not-self-clause-bytes
returns-then-not-self-clause-bytes g c file held = reads_of_all c.self.view_is held c.if-not-self.true (g.G.Growing.grows c.read_at.new.self) c.read_at.result c.args.at c.read_at.new.into c.read_at.ensures.bytes

pub returns-clause-bytes : goal.returns-clause-bytes
returns-clause-bytes g c file held = reads_of_blocks c.self.view_is held c.if-not-self.false (g.G.Growing.grows c.read_closed.new.file) c.read_closed.result c.args.at c.read_closed.new.into c.read_closed.ensures.bytes

pub returns-clause-same : goal.returns-clause-same
returns-clause-same g c file held = stays_held c.self.view_is held c.read_closed.new.file (λ bytes is. grown_as (c.read_closed.ensures.bytes bytes is) tt)

pub returns-then-not-self-clause-same : goal.returns-then-not-self-clause-same
returns-then-not-self-clause-same g c file held = stays_held c.self.view_is held c.read_at.new.self (λ bytes is. grown_as (c.read_at.ensures.bytes bytes is) tt)

use Rattle.std.proofs.Common.{◌∙◌}
use Rattle.tb_file_journal.proofs.Finding.{grown_as, stays_held, len_of_blocks, len_of_all}
use Rattle.tb_file_journal.proofs.snapshots.SnapshotDevice.len.Goals as goal

pub returns-then-not-self-clause-bytes : goal.returns-then-not-self-clause-bytes
returns-then-not-self-clause-bytes g c file held = len_of_all c.self.view_is held c.if-not-self.true (g.G.Growing.grows c.len.new.self) c.len.result c.len.ensures.bytes

pub returns-then-not-self-clause-same : goal.returns-then-not-self-clause-same
returns-then-not-self-clause-same g c file held = stays_held c.self.view_is held c.len.new.self (λ bytes is. grown_as (c.len.ensures.bytes bytes is) tt)

pub returns-clause-bytes : goal.returns-clause-bytes
returns-clause-bytes g c file held = c.max.ensures ∙ len_of_blocks c.self.view_is held c.if-not-self.false

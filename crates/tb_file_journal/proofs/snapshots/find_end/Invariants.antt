use Rattle.std.proofs.Common.{◌-◌, ◌^◌}
use Rattle.tb_file_journal.proofs.Finding.{IsSought}
use Rattle.tb_file_journal.proofs.snapshots.find_end.Given as goal

abbrev pub invariant-loop-end : goal.invariant-loop-end
invariant-loop-end g l = IsSought (g.G.Growing.grows l.fn.file) (g.G.Growing.grows l.file) l.fn.from l.end l.piece

abbrev pub decreases-loop-end : goal.decreases-loop-end
decreases-loop-end g l = 2 ^ 62 - l.end

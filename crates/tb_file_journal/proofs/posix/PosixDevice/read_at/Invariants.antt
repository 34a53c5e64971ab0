use Rattle.std.proofs.Common.{◌-◌, ◌≤◌, length}
use Rattle.tb_file_journal.proofs.WholeCalls.{HasReadSome}
use Rattle.tb_file_journal.proofs.posix.PosixDevice.read_at.Given as goal

abbrev pub decreases-loop-count : goal.decreases-loop-count
decreases-loop-count g l = length l.initial.into - l.count

abbrev pub invariant-loop-count : goal.invariant-loop-count
invariant-loop-count g l = (l.count ≤ length l.into)
    × (g.S.System.tells → HasReadSome l.at l.count l.into (g.S.System.disk l.fn.self.system) (g.S.System.disk l.self.system))

use Rattle.std.proofs.Common.{◌-◌, ◌≤◌, length}
use Rattle.tb_file_journal.proofs.WholeCalls.{HasWrittenSome}
use Rattle.tb_file_journal.proofs.posix.PosixDevice.write_at.Given as goal

abbrev pub decreases-loop-count : goal.decreases-loop-count
decreases-loop-count g l = length l.bytes - l.count

abbrev pub invariant-loop-count : goal.invariant-loop-count
invariant-loop-count g l = (l.count ≤ length l.bytes)
    × (g.S.System.tells → HasWrittenSome l.at l.count l.bytes (g.S.System.disk l.fn.self.system) (g.S.System.disk l.self.system))

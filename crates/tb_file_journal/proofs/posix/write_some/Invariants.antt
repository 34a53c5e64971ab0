use Rattle.std.proofs.Common.{◌≡◌, length}
use Rattle.tb_file_journal.specs.Device.{Torn}
use Rattle.tb_file_journal.specs.System.{ChangesDisk}
use Rattle.tb_file_journal.proofs.Retried.{Waits}
use Rattle.tb_file_journal.proofs.posix.write_some.Given as goal

abbrev pub invariant-loop : goal.invariant-loop
invariant-loop g l = g.S.System.tells
    → ((g.S.System.disk l.system).seen ≡ (g.S.System.disk l.fn.system).seen)
    × ChangesDisk (Torn l.offset (length l.bytes)) (g.S.System.disk l.fn.system) (g.S.System.disk l.system)
    × Waits (g.S.System.disk l.fn.system) (g.S.System.disk l.system) (g.S.System.interruptions l.fn.system) (g.S.System.interruptions l.system) l.counter

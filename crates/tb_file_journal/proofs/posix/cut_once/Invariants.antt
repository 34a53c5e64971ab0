use Rattle.std.proofs.Common.{◌≡◌}
use Rattle.tb_file_journal.specs.Device.{Cut}
use Rattle.tb_file_journal.specs.System.{ChangesDisk}
use Rattle.tb_file_journal.proofs.Retried.{Waits}
use Rattle.tb_file_journal.proofs.posix.cut_once.Given as goal

abbrev pub invariant-loop : goal.invariant-loop
invariant-loop g l = g.S.System.tells
    → ((g.S.System.disk l.system).seen ≡ (g.S.System.disk l.fn.system).seen)
    × ChangesDisk (Cut l.len) (g.S.System.disk l.fn.system) (g.S.System.disk l.system)
    × Waits (g.S.System.disk l.fn.system) (g.S.System.disk l.system) (g.S.System.interruptions l.fn.system) (g.S.System.interruptions l.system) l.counter

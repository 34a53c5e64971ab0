use Rattle.tb_file_journal.specs.Device.{IsLookedAt}
use Rattle.tb_file_journal.proofs.Retried.{Waits}
use Rattle.tb_file_journal.proofs.posix.read_some.Given as goal

abbrev pub invariant-loop : goal.invariant-loop
invariant-loop g l = g.S.System.tells
    → IsLookedAt (g.S.System.disk l.fn.system) (g.S.System.disk l.system)
    × Waits (g.S.System.disk l.fn.system) (g.S.System.disk l.system) (g.S.System.interruptions l.fn.system) (g.S.System.interruptions l.system) l.counter

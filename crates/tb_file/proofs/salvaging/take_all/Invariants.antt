use Rattle.std.proofs.Common.{ℕ, List, ◌≡◌, ◌-◌, ◌^◌, true}
use Rattle.tb_file_journal.specs.Device.{FailsNone}
use Rattle.tb_file_journal.specs.Ready.{IsReady}
use Rattle.tb_file_journal.specs.Scans.{HasRead}
use Rattle.tb_file.specs.RecordSteps.{StaysKept}
use Rattle.tb_file.specs.private.Taking.{StaysUsed, Taken}
use Rattle.tb_file.proofs.salvaging.take_all.Given as goal

-- the records so far were copied, and no call on the old file's device has failed
abbrev pub invariant-loop-fault : goal.invariant-loop-fault
invariant-loop-fault g l = record {
  same : (file : List ℕ) → g.D.Device.holds l.fn.from file → g.D.Device.holds l.from file;
  stays : g.D.Device.tells → StaysKept (g.D.Device.disk l.fn.from) (g.D.Device.disk l.from);
  none : g.D.Device.tells → (read : List (List ℕ)) → HasRead read (g.D.Device.disk l.fn.from).seen l.fn.scan → FailsNone (g.D.Device.disk l.fn.from) (g.D.Device.disk l.from);
  usable : l.keeper.journal.usable ≡ true;
  used : StaysUsed l.fn.keeper l.keeper;
  ready : g.N.Device.tells → IsReady g.N.Device.disk l.keeper.journal;
  taken : (records : List (List ℕ)) × Taken g.N.Device.disk g.N.Device.tells (g.D.Device.holds l.fn.from) records l.fn.scan l.scan l.fn.keeper l.keeper;
}

abbrev pub decreases-loop-fault : goal.decreases-loop-fault
decreases-loop-fault g l = 2 ^ 62 - l.scan.end

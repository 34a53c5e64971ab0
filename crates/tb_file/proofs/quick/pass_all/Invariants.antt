use Rattle.std.proofs.Common.{ℕ, List, ◌-◌, ◌^◌}
use Rattle.tb_file_journal.specs.Device.{FailsNone}
use Rattle.tb_file_journal.specs.Scans.{HasRead}
use Rattle.tb_file.specs.RecordSteps.{StaysKept}
use Rattle.tb_file.proofs.Orders.{Passing}
use Rattle.tb_file.proofs.quick.pass_all.Given as goal

-- the records so far are in order, and no call has failed
abbrev pub invariant-loop-next : goal.invariant-loop-next
invariant-loop-next g l = record {
  same : (file : List ℕ) → g.D.Device.holds l.fn.device file → g.D.Device.holds l.device file;
  stays : g.D.Device.tells → StaysKept (g.D.Device.disk l.fn.device) (g.D.Device.disk l.device);
  none : g.D.Device.tells → (read : List (List ℕ)) → HasRead read (g.D.Device.disk l.fn.device).seen l.fn.scan → FailsNone (g.D.Device.disk l.fn.device) (g.D.Device.disk l.device);
  passed : (file : List ℕ) (read : List (List ℕ)) → g.D.Device.holds l.fn.device file → HasRead read file l.fn.scan → Passing read file l.scan l.time;
}

abbrev pub decreases-loop-next : goal.decreases-loop-next
decreases-loop-next g l = 2 ^ 62 - l.scan.end

use Rattle.std.proofs.Common.{◌-◌, ◌^◌, List, ℕ}
use Rattle.tb_file_journal.proofs.Scanning.{IsScanning, IsReading}
use Rattle.tb_file_journal.proofs.scans.read_journal.Given as goal

abbrev pub invariant-loop-scan : goal.invariant-loop-scan
invariant-loop-scan g l = record {
  scanning : g.D.Device.tells → IsScanning (g.D.Device.disk l.fn.device) (g.D.Device.disk l.device);
  reading : (file : List ℕ) → g.D.Device.holds l.fn.device file → IsReading g.D.Device.holds l.device l.scan file;
}

abbrev pub decreases-loop-scan : goal.decreases-loop-scan
decreases-loop-scan g l = 2 ^ 62 - l.scan.end

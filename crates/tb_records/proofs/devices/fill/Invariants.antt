use Rattle.std.proofs.Common.{◌≡◌, ◌-◌, ◌≤◌, length, take}
use Rattle.std.specs.Io.KnownBytes.{Consumes}
use Rattle.tb_records.proofs.devices.fill.Given as goal

abbrev pub invariant-loop-at : goal.invariant-loop-at
invariant-loop-at g l = record {
  within : l.at ≤ length l.buf;
  bytes : Consumes (g.S.Source.input l.initial.source).left (g.S.Source.input l.source).left (take l.at l.buf);
  counted : (g.S.Source.input l.source).failed ≡ (g.S.Source.input l.initial.source).failed;
}

abbrev pub decreases-loop-at : goal.decreases-loop-at
decreases-loop-at g l = length l.initial.buf - l.at

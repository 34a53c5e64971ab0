use Rattle.std.proofs.Common.{◌≡◌, ◌-◌, ◌≤◌, length, take}
use Rattle.std.specs.Io.KnownBytes.{Consumes}
use Rattle.tb_log.proofs.inputs.fill.Given as goal

abbrev pub invariant-loop-filled : goal.invariant-loop-filled
invariant-loop-filled g l = record {
  within : l.filled ≤ length l.buffer;
  bytes : Consumes (g.S.Source.input l.initial.source).left (g.S.Source.input l.source).left (take l.filled l.buffer);
  counted : (g.S.Source.input l.source).failed ≡ (g.S.Source.input l.initial.source).failed;
}

abbrev pub decreases-loop-filled : goal.decreases-loop-filled
decreases-loop-filled g l = length l.initial.buffer - l.filled

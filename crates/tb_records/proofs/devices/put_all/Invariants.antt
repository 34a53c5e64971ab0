use Rattle.std.proofs.Common.{◌≡◌, ◌-◌, ◌≤◌, length, take}
use Rattle.std.specs.Io.KnownBytes.{Appends}
use Rattle.tb_records.proofs.devices.put_all.Given as goal

abbrev pub invariant-loop-at : goal.invariant-loop-at
invariant-loop-at g l = record {
  within : l.at ≤ length l.bytes;
  grown : Appends (g.W.Sink.output l.initial.sink).written (g.W.Sink.output l.sink).written (take l.at l.bytes);
  counted : (g.W.Sink.output l.sink).failed ≡ (g.W.Sink.output l.initial.sink).failed;
  flowed : (g.W.Sink.output l.sink).stalled ≡ (g.W.Sink.output l.initial.sink).stalled;
}

abbrev pub decreases-loop-at : goal.decreases-loop-at
decreases-loop-at g l = length l.bytes - l.at

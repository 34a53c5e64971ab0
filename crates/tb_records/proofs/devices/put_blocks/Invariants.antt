use Rattle.std.proofs.Common.{◌≡◌, ◌≤◌, ◌*◌, ◌++◌, List, All, length, flat_map}
use Rattle.std.specs.Io.KnownBytes.{Appends}
use Rattle.tb_records.proofs.devices.put_blocks.Given as goal

abbrev pub invariant-loop-left : goal.invariant-loop-left
invariant-loop-left g l = (front : List g.row.T.Denot)
    × (l.items ≡ front ++ l.left)
    × Appends (g.W.Sink.output l.initial.sink).written (g.W.Sink.output l.sink).written (flat_map g.T.Item.spelling front)
    × ((g.W.Sink.output l.sink).failed ≡ (g.W.Sink.output l.initial.sink).failed)
    × ((g.W.Sink.output l.sink).stalled ≡ (g.W.Sink.output l.initial.sink).stalled)
    × All g.T.Item.Fits front
    × (l.at_once * g.T.Item.SIZE ≤ length l.block)

abbrev pub decreases-loop-left : goal.decreases-loop-left
decreases-loop-left g l = length l.left

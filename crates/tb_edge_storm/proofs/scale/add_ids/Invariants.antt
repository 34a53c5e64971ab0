use Rattle.std.proofs.Common.{◌≡◌}
use Rattle.tb_edge_storm.specs.Totals.{with_ids_of}
use Rattle.tb_edge_storm.proofs.scale.add_ids.Given as goal

-- the ids so far
abbrev pub invariant-loop-done : goal.invariant-loop-done
invariant-loop-done l = l.ids.items ≡ with_ids_of l.initial.ids.items l.client l.done

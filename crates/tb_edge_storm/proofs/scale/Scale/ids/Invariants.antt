use Rattle.std.proofs.Common.{◌≡◌}
use Rattle.tb_edge_storm.specs.Totals.{ids_of}
use Rattle.tb_edge_storm.proofs.scale.Scale.ids.Given as goal

-- the ids of the clients so far
abbrev pub invariant-loop-client : goal.invariant-loop-client
invariant-loop-client l = l.ids.items ≡ ids_of l.client l.self.transfers

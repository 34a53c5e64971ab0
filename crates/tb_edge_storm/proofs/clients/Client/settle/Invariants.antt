use Rattle.std.proofs.Common.{◌≡◌}
use Rattle.tb_edge_storm.specs.private.Clients.{Waits}
use Rattle.tb_edge_storm.proofs.clients.Client.settle.Given as goal

-- nothing was sent except the request that waits
abbrev pub invariant-loop : goal.invariant-loop
invariant-loop g l = record {
  waits : Waits l.initial.self l.self;
  same : l.self.caller ≡ l.initial.self.caller;
}

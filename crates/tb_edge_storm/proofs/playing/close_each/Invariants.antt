use Rattle.std.proofs.Common.{◌≡◌, ◌<◌, ◌≤◌, ℕ, get_or}
use Rattle.tb_edge_storm.specs.declared.clients.Client.{Client}
use Rattle.tb_edge_storm.specs.private.Playing.{IsClosed}
use Rattle.tb_edge_storm.proofs.playing.close_each.Given as goal

-- those so far are closed, and the others as they were
abbrev pub invariant-loop-client : goal.invariant-loop-client
invariant-loop-client g l = record {
  closed : (i : ℕ) (d : Client g.row.J.Denot) → i < l.client-index → IsClosed (get_or l.initial.clients i d) (get_or l.clients i d);
  rest : (i : ℕ) (d : Client g.row.J.Denot) → l.client-index ≤ i → get_or l.clients i d ≡ get_or l.initial.clients i d;
}

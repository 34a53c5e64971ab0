use Rattle.std.proofs.Common.{◌≡◌, ◌<◌, ◌≤◌, ℕ, get_or}
use Rattle.tb_edge_storm.specs.declared.clients.Client.{Client}
use Rattle.tb_edge_storm.specs.private.Clients.{IsConcluded}
use Rattle.tb_edge_storm.proofs.playing.take_in_each.Given as goal

-- those so far are taken in, and the others as they were
abbrev pub invariant-loop-client : goal.invariant-loop-client
invariant-loop-client g l = record {
  same : l.finished ≡ l.initial.finished;
  served : (i : ℕ) (d : Client g.row.J.Denot) → i < l.client-index → IsConcluded l.initial.finished (get_or l.initial.clients i d);
  rest : (i : ℕ) (d : Client g.row.J.Denot) → l.client-index ≤ i → get_or l.clients i d ≡ get_or l.initial.clients i d;
}

use Rattle.std.proofs.Common.{◌≤◌, ◌+◌}
use Rattle.tb_edge_storm.specs.private.Clients.{TransfersMore, offers}
use Rattle.tb_edge_storm.proofs.clients.Client.create_all.Given as goal

-- `done` transfers were created, and each was offered again
abbrev pub invariant-loop-done : goal.invariant-loop-done
invariant-loop-done g l = record {
  on : TransfersMore g.J.Naming.opening 0 l.done l.initial.self l.self;
  offers : offers l.initial.self.line + l.done ≤ offers l.self.line;
}

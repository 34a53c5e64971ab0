use Rattle.std.proofs.Common.{◌≡◌, ◌+◌, ◌++◌, length, replicate}
use Rattle.tb_service.specs.History.{ServesOn}
use Rattle.tb_service.specs.Clerks.{server_state, UsesPlaces}
use Rattle.tb_service.proofs.clerk.Clerk.serve_all.Given as goal

abbrev pub invariant-loop-request : goal.invariant-loop-request
invariant-loop-request g l = record {
  served : ServesOn g.J.Naming.opening g.M.Moments.tells g.G.Gate.passes (server_state l.initial.self) (length l.initial.self.ports.items + 1) l.yielded l.initial.self.refused.items l.self.refused.items (server_state l.self);
  ports : l.self.ports.items ≡ l.initial.self.ports.items ++ replicate (length l.yielded) l.port;
  capacity : UsesPlaces (length l.yielded) l.initial.self l.self;
}

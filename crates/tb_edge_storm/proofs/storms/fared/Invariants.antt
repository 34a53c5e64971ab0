use Rattle.std.proofs.Common.{◌≡◌, map, fold, take}
use Rattle.tb_edge_storm.specs.private.Outcomes.{first_reported}
use Rattle.tb_edge_storm.proofs.storms.fared.Given as goal

-- the fault among the clients so far
abbrev pub invariant-loop-client : goal.invariant-loop-client
invariant-loop-client g l = l.fared ≡ fold first_reported l.fn.first (map (λ client. client.fault) (take l.client-index l.others))

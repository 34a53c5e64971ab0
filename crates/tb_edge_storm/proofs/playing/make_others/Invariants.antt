use Rattle.tb_service.specs.Names.{Name}
use Rattle.tb_service.specs.Ports.{ArePortsOf}
use Rattle.tb_edge_storm.proofs.Ready.{SoFar}
use Rattle.tb_edge_storm.proofs.playing.make_others.Given as goal

-- the clients so far
abbrev pub invariant-loop-made : goal.invariant-loop-made
invariant-loop-made g l = (name : Name) → ArePortsOf name l.count l.initial.ports.items → SoFar name l.count l.made l.ports.items l.others.items

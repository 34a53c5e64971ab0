use Rattle.std.proofs.Common.{◌≡◌, take}
use Rattle.tb_service.specs.Places.{places_from}
use Rattle.tb_service.proofs.finished.places_of.Given as goal

abbrev pub invariant-loop-at : goal.invariant-loop-at
invariant-loop-at l = l.places.items ≡ places_from l.port 1 (take l.at l.ports)

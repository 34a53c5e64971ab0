-- Which fault of a storm is reported.
use Rattle.std.specs.Prelude.{ℕ, ◌≡◌, List, map, fold, Option, Some, None, Result, Ok, Err, nat_lt, if◌then◌else◌}
use Rattle.tb_service.specs.declared.ends.Ended.{Ended}
use Rattle.tb_service.specs.declared.ends.Ended.TheVariants as way
use Rattle.tb_edge_storm.specs.declared.clients.Client.{Client}
use Rattle.tb_edge_storm.specs.declared.faults.StormFault.{StormFault}
use Rattle.tb_edge_storm.specs.declared.faults.StormFault.TheVariants as storm
use Rattle.tb_edge_storm.specs.declared.totals.Totals.{Totals}

-- the first of two faults; but that a client gave up is reported only if there is no other fault
abbrev pub first_reported : Option StormFault → Option StormFault → Option StormFault
first_reported None next = next
first_reported (Some storm.GaveUp) None = Some storm.GaveUp
first_reported (Some storm.GaveUp) (Some fault) = Some fault
first_reported (Some fault) next = Some fault

-- the fault that is reported for the clients: from the first one's and the others'
abbrev pub fared : {J : Type 0} → Option StormFault → List (Client J) → Option StormFault
fared first others = fold first_reported first (map (λ client. client.fault) others)

-- What is reported, from how the server ended, the fault of the clients and what a seat found at the end. That the server found no memory is reported
-- before all else, and that a client gave up only if the seat met no fault.
abbrev pub outcome_of : Ended → Option StormFault → Result Totals StormFault → Result Totals StormFault
outcome_of way.NoMemory fared found = Err storm.NoMemory
outcome_of way.Closed None found = found
outcome_of way.Closed (Some storm.GaveUp) (Err fault) = Err fault
outcome_of way.Closed (Some fault) found = Err fault

-- totals with fewer entries than there were replies are not reported: a client gave up
abbrev pub totals_answered : ℕ → Result Totals StormFault → Result Totals StormFault
totals_answered replies (Ok totals) = if nat_lt totals.commits replies then Err storm.GaveUp else Ok totals
totals_answered replies (Err fault) = Err fault

-- what is reported for an end of the server and a fault of the clients, whatever a seat found
abbrev pub Concludes : ℕ → Ended → Option StormFault → Result Totals StormFault → Type 0
Concludes replies ended fared told = (found : Result Totals StormFault) × (told ≡ totals_answered replies (outcome_of ended fared found))

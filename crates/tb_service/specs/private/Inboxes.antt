-- What the server's end of the queue does: it makes ports, and takes orders.
use Rattle.std.specs.Prelude.{ℕ, ◌≡◌, [], ◌∷◌, ◌++◌, Option, MatchOption}
use Rattle.crossbeam_channel.specs.Claims.{Pass, view}
use Rattle.tb_service.specs.declared.orders.Order.{Order}
use Rattle.tb_service.specs.declared.rule.View.{View}
use Rattle.tb_service.specs.Names.{Name, service_of}
use Rattle.tb_service.specs.Ports.{Offers}

-- a port of a service, with this number, that has offered nothing
abbrev pub IsFreshPort : Name → ℕ → Offers → Type 0
IsFreshPort name number port = (port.offered ≡ []) × (port.number ≡ number) × (port.service ≡ name)

-- no order was taken, and the service is the same
abbrev pub TakesNoOrder : Pass Order View → Pass Order View → Type 0
TakesNoOrder before after = ((view after).taken ≡ (view before).taken) × (service_of after ≡ service_of before)

-- an order was taken, or no order
abbrev pub TakesNextOrder : Option Order → Pass Order View → Pass Order View → Type 0
TakesNextOrder next before after =
    MatchOption next ((view after).taken ≡ (view before).taken) (λ order. (view after).taken ≡ (view before).taken ++ order ∷ [])

-- no port was made, and the service is the same
abbrev pub MakesNone : Pass Order View → Pass Order View → Type 0
MakesNone before after = ((view after).ports ≡ (view before).ports) × (service_of after ≡ service_of before)

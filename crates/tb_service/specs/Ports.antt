-- What clauses see of ports.
use Rattle.std.specs.Prelude.{ℕ, ◌≡◌, ◌+◌, true, List, [], ◌∷◌, ◌++◌, length, Result, MatchResult}
use Rattle.crossbeam_channel.specs.Claims.{Pass, view}
use Rattle.tb_records.specs.Messages.{Message}
use Rattle.tb_service.specs.declared.orders.Order.{Order}
use Rattle.tb_service.specs.declared.rule.View.{View}
use Rattle.tb_service.specs.Names.{Name, service_of}

-- a port, open or closed: its service, its number, from 0, and the requests that it sent, in order
pub record Offers : Type 0 where
  pub service : Name
  pub number : ℕ
  pub offered : List Message

abbrev pub offers_of : Pass Order View → Offers
offers_of pass = record { service = service_of pass; number = (view pass).port; offered = (view pass).offered }

-- requests were sent after those before; or what was given comes back, and nothing was sent
abbrev pub SendsOrReturns : {X : Type 0} → Result (Unit {0}) X → X → List Message → Offers → Offers → Type 0
SendsOrReturns result given requests before after =
    MatchResult result (λ _. after.offered ≡ before.offered ++ requests) (λ back. (back ≡ given) × (after.offered ≡ before.offered))

-- what a pass knows is a port's, with this number, and the port sent `count` requests
pub record IsPortOf (v : View) (number count : ℕ) : Type 0 where
  pub offers : v.offers ≡ true
  pub number_is : number ≡ v.port
  pub count_is : length v.offered ≡ count

-- ports of a service that have offered nothing, numbered from n
abbrev pub AreNumbered : Name → ℕ → List Offers → Type 0
AreNumbered name n [] = Unit {0}
AreNumbered name n (port ∷ ports) = (port.service ≡ name) × (port.number ≡ n) × (port.offered ≡ []) × AreNumbered name (n + 1) ports

-- the `count` ports of a service, numbered from 0
abbrev pub ArePortsOf : Name → ℕ → List Offers → Type 0
ArePortsOf name count ports = AreNumbered name 0 ports × (length ports ≡ count)

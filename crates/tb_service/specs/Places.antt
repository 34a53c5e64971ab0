-- Places: the requests taken are numbered from 1.
use Rattle.std.specs.Prelude.{ℕ, ◌≡◌, ◌==◌, ◌+◌, ◌<◌, List, [], ◌∷◌, ◌++◌, length, replicate, if◌then◌else◌}
use Rattle.std.specs.List.{All}
use Rattle.tb_records.specs.Messages.{Message}
use Rattle.tb_service.specs.declared.orders.Order.{Order}
use Rattle.tb_service.specs.Sent.{requests_in}

-- the requests of all ports, by place
abbrev pub requests : List Order → List Message
requests [] = []
requests (o ∷ os) = requests_in o.what ++ requests os

-- the port of each request of an order
abbrev pub ports_in : Order → List ℕ
ports_in o = replicate (length (requests_in o.what)) o.port

-- the port of each place
abbrev pub ports : List Order → List ℕ
ports [] = []
ports (o ∷ os) = ports_in o ++ ports os

-- the places of port p in a list of ports whose first has the place n
abbrev pub places_from : ℕ → ℕ → List ℕ → List ℕ
places_from p n [] = []
places_from p n (q ∷ qs) = if q == p then n ∷ places_from p (n + 1) qs else places_from p (n + 1) qs

-- each request taken has a port, and its number is below the number of ports
pub record HaveOwners (count : ℕ) (taken : List Message) (owners : List ℕ) : Type 0 where
  pub whole : length owners ≡ length taken
  pub made : All (λ (p : ℕ). p < count) owners

-- The orders that ports sent, and what one port has in them.
use Rattle.std.specs.Prelude.{ℕ, Bool, true, false, ◌==◌, ◌&&◌, ◌||◌, List, [], ◌∷◌, ◌++◌, if◌then◌else◌}
use Rattle.tb_records.specs.Messages.{Message}
use Rattle.tb_service.specs.declared.orders.Order.{Order}
use Rattle.tb_service.specs.declared.orders.What.{What}
use Rattle.tb_service.specs.declared.orders.What.TheVariants.{One, Many, Close}

abbrev pub requests_in : What → List Message
requests_in (One request) = request ∷ []
requests_in (Many batch) = batch.requests.items
requests_in Close = []

abbrev pub closes : What → Bool
closes (One request) = false
closes (Many batch) = false
closes Close = true

-- the requests of port p, in order
abbrev pub requests_of : ℕ → List Order → List Message
requests_of p [] = []
requests_of p (o ∷ os) = if o.port == p then requests_in o.what ++ requests_of p os else requests_of p os

-- port p is closed in them
abbrev pub is_port_closed : ℕ → List Order → Bool
is_port_closed p [] = false
is_port_closed p (o ∷ os) = (o.port == p && closes o.what) || is_port_closed p os

-- they have no order of port p
abbrev pub has_none_of : ℕ → List Order → Bool
has_none_of p [] = true
has_none_of p (o ∷ os) = if o.port == p then false else has_none_of p os

-- nothing of port p comes after its close
abbrev pub ends_at_close : ℕ → List Order → Bool
ends_at_close p [] = true
ends_at_close p (o ∷ os) = if o.port == p && closes o.what then has_none_of p os else ends_at_close p os

-- The rule of the queue: the orders taken and then those queued are all that were sent, and each pass knows its part of them.
use Rattle.std.specs.Prelude.{ℕ, Bool, true, false, ◌≡◌, ◌<◌, ◌≤◌, List, [], ◌++◌, Result, MatchResult}
use mathlib.Core.Option.{some}
use lib.ListN.{get_elem?}
use Rattle.tb_records.specs.Messages.{Message}
use Rattle.tb_service.specs.declared.orders.Order.{Order}
use Rattle.tb_service.specs.declared.rule.View.{View}
use Rattle.tb_service.specs.Sent.{requests_in, closes, requests_of, is_port_closed, has_none_of, ends_at_close}

-- a pass that knows nothing
abbrev pub spent : View
spent = record { offers = false; port = 0; offered = []; closed = false; serves = false; ports = 0; taken = []; knows = false; known_port = 0; known = [] }

-- the pass of a port, with all that it offered, and whether it sent its close
abbrev pub port_view : ℕ → List Message → Bool → View
port_view number offered closed = record { offers = true; port = number; offered = offered; closed = closed; serves = false; ports = 0; taken = []; knows = false; known_port = 0; known = [] }

-- the pass of the server, with the number of ports made and the orders taken
abbrev pub server_view : ℕ → List Order → View
server_view ports taken = record { offers = false; port = 0; offered = []; closed = false; serves = true; ports = ports; taken = taken; knows = false; known_port = 0; known = [] }

abbrev pub server_with : View → ℕ → List Order → View
server_with v ports taken = record v { ports = ports; taken = taken }

-- the port sent an order
abbrev pub sent : View → Order → View
sent v o = record v { offered = v.offered ++ requests_in o.what; closed = closes o.what }

-- an order was sent; or it comes back, and nothing was sent
abbrev pub SentOrBack : Result (Unit {0}) Order → Order → View → View → Type 0
SentOrBack result order before after = MatchResult result (λ _. after ≡ sent before order) (λ back. (back ≡ order) × (after ≡ before))

-- the server took the pass of a port in
abbrev pub taken_in : View → View → View
taken_in v u = record v { knows = true; known_port = u.port; known = u.offered }

-- the one pass of a port, whose requests that were sent are what it offered
pub record IsPort (sent_orders : List Order) (ports : ℕ) (seat : ℕ → ℕ) (pass : ℕ) (v : View) : Type 0 where
  pub seated : seat v.port ≡ pass
  pub made : v.port < ports
  pub offers : requests_of v.port sent_orders ≡ v.offered
  pub ends : is_port_closed v.port sent_orders ≡ v.closed

-- a port that the server took in: it offers nothing more
pub record HasJoined (sent_orders : List Order) (ports : ℕ) (seat : ℕ → ℕ) (reader : ℕ) (v : View) : Type 0 where
  pub seated : seat v.known_port ≡ reader
  pub made : v.known_port < ports
  pub offers : requests_of v.known_port sent_orders ≡ v.known

-- the one pass of the server, which knows the orders taken
pub record IsServer (sent_orders taken : List Order) (ports : ℕ) (seat : ℕ → ℕ) (reader pass : ℕ) (v : View) : Type 0 where
  pub mine : pass ≡ reader
  pub takes : v.taken ≡ taken
  pub makes : v.ports ≡ ports
  pub apart : v.offers ≡ false
  pub knows : v.knows ≡ true → HasJoined sent_orders ports seat reader v

abbrev pub FitsOrders : List Order → List Order → ℕ → (ℕ → ℕ) → ℕ → ℕ → View → Type 0
FitsOrders sent_orders taken ports seat reader pass v =
    (v.offers ≡ true → IsPort sent_orders ports seat pass v) × (v.serves ≡ true → IsServer sent_orders taken ports seat reader pass v)

-- The orders taken and then those queued are all that were sent: in them each port's requests are what it offered, in order, and nothing of a port
-- comes after its close. `seat` names each port's pass, which is the server's once it took the port in.
pub record Queued (items : List Order) (views : List View) : Type 0 where
  pub taken : List Order
  pub ports : ℕ
  pub reader : ℕ
  pub seat : ℕ → ℕ
  pub unmade : (p : ℕ) → ports ≤ p → has_none_of p (taken ++ items) ≡ true
  pub ended : (p : ℕ) → ends_at_close p (taken ++ items) ≡ true
  pub fits : (pass : ℕ) (v : View) → get_elem? views pass ≡ some v → FitsOrders (taken ++ items) taken ports seat reader pass v

-- About the port taken in last: what was taken of it and what is queued is what it offered; nothing is queued if its close was taken.
pub record TalliesOrders (v : View) (items : List Order) : Type 0 where
  pub whole : requests_of v.known_port v.taken ++ requests_of v.known_port items ≡ v.known
  pub made : v.known_port < v.ports
  pub ended : is_port_closed v.known_port v.taken ≡ true → requests_of v.known_port items ≡ []

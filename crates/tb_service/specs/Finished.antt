-- What clauses see of a run that has ended.
use Rattle.std.specs.Prelude.{ℕ, ◌≡◌, ◌-◌, ◌<◌, true, List, [], ◌++◌, map, slice_get, Some}
use Rattle.crossbeam_channel.specs.Claims.{Pass, view}
use Rattle.tb_records.specs.Messages.{Message}
use Rattle.tb_published.specs.declared.faults.TakeFault.{TakeFault}
use Rattle.tb_published.specs.Openings.{Ends}
use Rattle.tb_service.specs.declared.ends.Ended.{Ended}
use Rattle.tb_service.specs.declared.ends.Ended.TheVariants as way
use Rattle.tb_service.specs.declared.orders.Order.{Order}
use Rattle.tb_service.specs.declared.rule.View.{View}
use Rattle.tb_service.specs.Sent.{is_port_closed}
use Rattle.tb_service.specs.Names.{Name, service_of}
use Rattle.tb_service.specs.Places.{requests, ports}

-- its publisher, why it ended, the requests taken, by place, and the port of each place; the places of those that were left out, and its service
pub record Finish : Type 0 where
  pub publisher : Ends
  pub ended : Ended
  pub taken : List Message
  pub owners : List ℕ
  pub refused : List (ℕ × TakeFault)
  pub service : Name

-- what is seen of a run by its parts, and by what the server's pass knows
abbrev pub finish_of : Ends → Ended → List (ℕ × TakeFault) → Pass Order View → Finish
finish_of publisher ended refused pass = record {
  publisher = publisher;
  ended = ended;
  taken = requests (view pass).taken;
  owners = ports (view pass).taken;
  refused = refused;
  service = service_of pass;
}

-- each port was closed
abbrev pub AllAreClosed : View → Type 0
AllAreClosed v = (p : ℕ) → p < v.ports → is_port_closed p v.taken ≡ true

-- what the server's pass knows, the port of each place, and why the run ended
pub record IsRunServed (v : View) (owners : List ℕ) (ended : Ended) : Type 0 where
  pub serves : v.serves ≡ true
  pub placed : ports v.taken ≡ owners
  pub over : ended ≡ way.Closed → AllAreClosed v

-- The requests at these places, from 1, are a prefix of what a port offered, in its order; they are all of it if the run ended because each port was
-- closed.
pub record IsOffered (offered taken : List Message) (places : List ℕ) (ended : Ended) : Type 0 where
  pub rest : List Message
  pub whole : map Some offered ≡ map (λ place. slice_get taken (place - 1)) places ++ map Some rest
  pub all : ended ≡ way.Closed → rest ≡ []

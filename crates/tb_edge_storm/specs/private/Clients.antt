-- A client and its port while it calls.
use Rattle.std.specs.Prelude.{ℕ, ◌≡◌, ◌-◌, ◌%◌, ◌==◌, List, [], ◌∷◌, ◌++◌, length, map, IsTrue, Option, Some, None, if◌then◌else◌}
use mathlib.Core.List.{IsPrefix}
use Rattle.tb_records.specs.declared.bodies.Body.{Body}
use Rattle.tb_records.specs.Messages.{Message, Answer, asked}
use Rattle.tb_records.specs.Ordered.{Each}
use Rattle.tb_machine.specs.Histories.{is_lawful}
use Rattle.tb_published.specs.Openings.{Opening}
use Rattle.tb_service.specs.Names.{Name}
use Rattle.tb_service.specs.Ports.{Offers}
use Rattle.tb_service.specs.Places.{places_from}
use Rattle.tb_service.specs.Finished.{Finish, IsOffered}
use Rattle.tb_caller.specs.declared.callers.Heard.{Heard}
use Rattle.tb_caller.specs.declared.callers.Heard.TheVariants as hearing
use Rattle.tb_caller.specs.declared.callers.Phase.TheVariants.{Idle}
use Rattle.tb_caller.specs.Clients.{fresh, client_with, open_request, made, call_fault, called, heard, received}
use Rattle.tb_caller.specs.Endpoints.{IsAmong}
use Rattle.tb_caller.specs.Calls.{IsTaken}
use Rattle.tb_caller_laws.specs.SeatCalls.{IsFromSeat}
use Rattle.tb_edge_storm.specs.declared.clients.Client.{Client}
use Rattle.tb_edge_storm.specs.declared.network.Line.{Line}
use Rattle.tb_edge_storm.specs.declared.network.Line.TheVariants as line
use Rattle.tb_edge_storm.specs.Calls.{sent_in_session, transfer_call}

-- the port of a line, open or closed
abbrev pub port_of : Line → Option Offers
port_of (line.Open port) = Some port
port_of (line.Closed port) = Some port
port_of line.Gone = None

-- how many requests the network delivers again after a client's kth call
abbrev pub repeat_count : ℕ → ℕ
repeat_count k = if k % 3 == 0 then 2 else 1

-- a port that sent more
abbrev pub more_by : Option Offers → List Message → Option Offers
more_by None more = None
more_by (Some port) more = Some (record { service = port.service; number = port.number; offered = port.offered ++ more })

-- what a port sent; nothing if there is no port
abbrev pub offered_by : Option Offers → List Message
offered_by None = []
offered_by (Some port) = port.offered

-- how many requests were sent
abbrev pub offers : Line → ℕ
offers way = length (offered_by (port_of way))

-- what the network delivers again after the reply to a client's kth call: that call, and after each third also the one two before
abbrev pub repeats_at : ℕ → ℕ → ℕ → List Message
repeats_at client session k =
    asked client session k (transfer_call client k)
    ∷ (if k % 3 == 0 then asked client session (k - 2) (transfer_call client (k - 2)) ∷ [] else [])

module _ {J : Type 0} where
  -- a new client, on a port that sent nothing
  pub record IsNewClient (service : Name) (port number : ℕ) (c : Client J) : Type 0 where
    pub number_is : c.number ≡ number
    pub caller_is : c.caller ≡ fresh number
    pub port_is : port_of c.line ≡ Some (record { service = service; number = port; offered = [] })

  -- nothing was sent except the request that waits, and the seat saw more
  pub record Waits (old new : Client J) : Type 0 where
    pub number_is : new.number ≡ old.number
    pub seen : IsPrefix old.seat new.seat
    pub more : List Message
    pub sent : port_of new.line ≡ more_by (port_of old.line) more
    pub each : Each (λ (r : Message). open_request old.caller.phase ≡ Some r) more

  -- its seat gave an answer, and this is what it is for the request that waits
  pub record Hears (o : Opening) (h : Heard) (old new : Client J) : Type 0 where
    pub waits : Waits old new
    pub answer : Answer
    pub heard_is : h ≡ heard old.caller answer
    pub caller_is : new.caller ≡ received old.caller answer
    pub given : IsFromSeat o new.seat answer

  -- it made a call, and took the reply
  pub record Returns (o : Opening) (body : Body) (old new : Client J) : Type 0 where
    pub waiting : Client J
    pub free : call_fault old.caller body ≡ None
    pub number_is : waiting.number ≡ old.number
    pub caller_is : waiting.caller ≡ called old.caller (made old.caller body)
    pub line_is : waiting.line ≡ old.line
    pub seat_is : waiting.seat ≡ old.seat
    pub hears : Hears o hearing.Returned waiting new

  -- the network delivered these again, and the client is as it was
  pub record Repeats (more : List Message) (old new : Client J) : Type 0 where
    pub number_is : new.number ≡ old.number
    pub caller_is : new.caller ≡ old.caller
    pub seat_is : new.seat ≡ old.seat
    pub sent : port_of new.line ≡ more_by (port_of old.line) more

  -- From its port's first state on, it registered and made `count` calls. Each returned a reply that its seat gave, and its port sent nothing else.
  pub record Stands (o : Opening) (id : ℕ) (call : ℕ → Body) (count : ℕ) (start : Option Offers) (c : Client J) : Type 0 where
    pub number_is : c.number ≡ id
    pub caller_is : c.caller ≡ client_with id c.caller.session count Idle
    pub returned : List (Message × Answer)
    pub all : map (λ p. p.0) returned ≡ sent_in_session id c.caller.session call count
    pub lawful : Each (λ (r : Message). IsTrue (is_lawful r)) (sent_in_session id c.caller.session call count)
    pub taken : Each (IsTaken (sent_in_session id c.caller.session call count)) returned
    pub given : Each (λ (p : Message × Answer). IsFromSeat o c.seat p.1) returned
    pub more : List Message
    pub sent : port_of c.line ≡ more_by start more
    pub own : Each (λ (r : Message). IsAmong r (sent_in_session id c.caller.session call count)) more

  -- a new client made `count` calls
  abbrev pub Plays : Opening → (ℕ → Body) → ℕ → Client J → Client J → Type 0
  Plays o call count old new = old.caller ≡ fresh old.number → Stands o old.number call count (port_of old.line) new

  -- a client that had made m of its transfers has made n
  abbrev pub TransfersMore : Opening → ℕ → ℕ → Client J → Client J → Type 0
  TransfersMore o m n old new = (start : Option Offers) → Stands o old.number (transfer_call old.number) m start old → Stands o old.number (transfer_call old.number) n start new

  -- what the server took of its port, and that its history has all that the seat saw
  pub record IsConcluded (finish : Finish) (c : Client J) : Type 0 where
    pub port : Offers
    pub port_is : port_of c.line ≡ Some port
    pub offered : IsOffered port.offered finish.taken (places_from port.number 1 finish.owners) finish.ended
    pub seen : IsPrefix c.seat finish.publisher.history

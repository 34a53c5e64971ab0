-- All clients of a storm, and what a server that has finished took of them.
use Rattle.std.specs.Prelude.{ℕ, ◌≡◌, ◌+◌, ◌-◌, ◌<◌, ◌≤◌, List, [], ◌∷◌, ◌++◌, length, slice_index_or, IfSome, Some, None}
use mathlib.Core.List.{IsPrefix}
use Rattle.tb_records.specs.declared.bodies.Body.{Body}
use Rattle.tb_records.specs.Messages.{Message}
use Rattle.tb_machine.specs.declared.entries.Entry.{Entry}
use Rattle.tb_published.specs.Openings.{Opening}
use Rattle.tb_service.specs.Names.{Name}
use Rattle.tb_service.specs.Ports.{Offers}
use Rattle.tb_service.specs.Places.{places_from}
use Rattle.tb_service.specs.Finished.{Finish, IsOffered}
use Rattle.tb_service.specs.OfferedLaws.{GrowsByOffers}
use Rattle.tb_edge_storm.specs.declared.clients.Client.{Client}
use Rattle.tb_edge_storm.specs.declared.playing.Clients.{Clients}
use Rattle.tb_edge_storm.specs.declared.totals.Totals.{Totals}
use Rattle.tb_edge_storm.specs.Calls.{accounts_call, transfer_call}
use Rattle.tb_edge_storm.specs.private.Found.{replies_of, Totaled}
use Rattle.tb_edge_storm.specs.Served.{AreLeft}
use Rattle.tb_edge_storm.specs.private.Clients.{port_of, IsNewClient, Repeats, Stands, Plays, IsConcluded}

-- a port that sent nothing
abbrev pub new_port : Name → ℕ → Offers
new_port service number = record { service = service; number = number; offered = [] }

module _ {J : Type 0} where
  -- a new client on the last of the ports
  pub record IsNewOn (number : ℕ) (before after : List Offers) (c : Client J) : Type 0 where
    pub port : Offers
    pub last : before ≡ after ++ port ∷ []
    pub is_new : port.offered ≡ [] → IsNewClient port.service port.number number c

  -- clients 1 to `count`, on ports that go down to 0
  pub record AreNew (service : Name) (count : ℕ) (others : List (Client J)) : Type 0 where
    pub count_is : length others ≡ count
    pub each : (i : ℕ) (d : Client J) → i < count → IsNewClient service (count - 1 - i) (i + 1) (slice_index_or others i d)

  -- client 100, on the port after the others', and the others
  pub record AreReady (service : Name) (count : ℕ) (clients : Clients J) : Type 0 where
    pub first : IsNewClient service count 100 clients.first
    pub others : AreNew service count clients.others.items

  -- if it met no fault, a client made its calls on its port
  abbrev pub HasMade : Opening → Name → ℕ → ℕ → (ℕ → Body) → ℕ → Client J → Type 0
  HasMade o service port number call count c = c.fault ≡ None → Stands o number call count (Some (new_port service port)) c

  -- if client 100 met no fault, the others began
  pub record HaveMade (o : Opening) (service : Name) (count transfers : ℕ) (clients : Clients J) : Type 0 where
    pub first : HasMade o service count 100 (accounts_call count) 1 clients.first
    pub count_is : length clients.others.items ≡ count
    pub others : clients.first.fault ≡ None → (i : ℕ) (d : Client J) → i < count
        → HasMade o service (count - 1 - i) (i + 1) (transfer_call (i + 1)) transfers (slice_index_or clients.others.items i d)

  -- what each did in its thread
  pub record MakeTransfers (o : Opening) (transfers : ℕ) (old new : List (Client J)) : Type 0 where
    pub count_is : length new ≡ length old
    pub each : (i : ℕ) (d : Client J) → i < length old → (slice_index_or new i d).fault ≡ None
        → Plays o (transfer_call (slice_index_or old i d).number) transfers (slice_index_or old i d) (slice_index_or new i d)

  -- a port was closed, and the client is as it was
  pub record IsClosed (old new : Client J) : Type 0 where
    pub same : Repeats [] old new
    pub fault_is : new.fault ≡ old.fault

  pub record AreClosed (old new : List (Client J)) : Type 0 where
    pub count_is : length new ≡ length old
    pub each : (i : ℕ) (d : Client J) → i < length old → IsClosed (slice_index_or old i d) (slice_index_or new i d)

  -- ports of one service
  abbrev pub AreOfService : Name → List (Client J) → Type 0
  AreOfService service clients = (i : ℕ) (d : Client J) → i < length clients → IfSome (port_of (slice_index_or clients i d).line) (λ port. port.service ≡ service)

  abbrev pub HaveNoFault : List (Client J) → Type 0
  HaveNoFault clients = (i : ℕ) (d : Client J) → i < length clients → (slice_index_or clients i d).fault ≡ None

  abbrev pub AreServedBy : Finish → List (Client J) → Type 0
  AreServedBy finish clients = (i : ℕ) (d : Client J) → i < length clients → IsConcluded finish (slice_index_or clients i d)

  -- client 100's seat has learnt more
  pub record IsLearnt (old new : Clients J) : Type 0 where
    pub number_is : new.first.number ≡ old.first.number
    pub caller_is : new.first.caller ≡ old.first.caller
    pub line_is : new.first.line ≡ old.first.line
    pub fault_is : new.first.fault ≡ old.first.fault
    pub seen : IsPrefix old.first.seat new.first.seat
    pub others_are : new.others.items ≡ old.others.items

-- A server with `count` ports has run after a history: what it added was offered by one of them, whatever each of them offered.
abbrev pub HasRun : ℕ → List Entry → Finish → Type 0
HasRun count before finish = (offered : ℕ → List Message) → ((p : ℕ) → p < count → IsOffered (offered p) finish.taken (places_from p 1 finish.owners) finish.ended)
    → GrowsByOffers count offered before finish.publisher.history

-- the totals are of the history of a server that has finished, which has an entry for each reply, or more; and its ports were those of the clients
pub record EndsWell (o : Opening) (count transfers : ℕ) (finish : Finish) (totals : Totals) : Type 0 where
  pub whole : Totaled o count transfers finish.publisher.history totals
  pub enough : replies_of count transfers ≤ totals.commits
  pub left : AreLeft o finish count transfers

-- The server of a storm that has finished: its ports, what each client sent through its own, and what the server took of it.
use Rattle.std.specs.Prelude.{ℕ, ◌≡◌, ◌+◌, ◌-◌, ◌<◌, List, [], map, IsTrue, ◌==◌, if◌then◌else◌}
use Rattle.tb_records.specs.declared.bodies.Body.{Body}
use Rattle.tb_records.specs.Messages.{Message, Answer}
use Rattle.tb_records.specs.Ordered.{Each}
use Rattle.tb_machine.specs.declared.entries.Entry.{Entry}
use Rattle.tb_machine.specs.Histories.{is_lawful}
use Rattle.tb_published.specs.Openings.{Opening}
use Rattle.tb_service.specs.Places.{places_from}
use Rattle.tb_service.specs.Finished.{Finish, IsOffered}
use Rattle.tb_service.specs.OfferedLaws.{GrowsByOffers}
use Rattle.tb_caller.specs.Endpoints.{IsAmong}
use Rattle.tb_caller.specs.Calls.{IsTaken}
use Rattle.tb_caller_laws.specs.SeatCalls.{IsFromSeat}
use Rattle.tb_edge_storm.specs.Calls.{sent_in_session, accounts_call, transfer_call}

-- What is left of a client whose port the server took in: all its calls returned a reply that was given after a prefix of the history, and its port
-- sent nothing else.
pub record IsClientLeft (o : Opening) (finish : Finish) (port id : ℕ) (call : ℕ → Body) (count : ℕ) (sent : List Message) : Type 0 where
  pub session : ℕ
  pub returned : List (Message × Answer)
  pub all : map (λ p. p.0) returned ≡ sent_in_session id session call count
  pub lawful : Each (λ (r : Message). IsTrue (is_lawful r)) (sent_in_session id session call count)
  pub taken : Each (IsTaken (sent_in_session id session call count)) returned
  pub given : Each (λ (p : Message × Answer). IsFromSeat o finish.publisher.history p.1) returned
  pub own : Each (λ (r : Message). IsAmong r (sent_in_session id session call count)) sent
  pub offered : IsOffered sent finish.taken (places_from port 1 finish.owners) finish.ended

-- the number, the calls and their count of the client on a port: the last one is client 100's
abbrev pub number_at : ℕ → ℕ → ℕ
number_at count port = if port == count then 100 else count - port

abbrev pub call_at : ℕ → ℕ → ℕ → Body
call_at count port = if port == count then accounts_call count else transfer_call (count - port)

abbrev pub count_at : ℕ → ℕ → ℕ → ℕ
count_at count transfers port = if port == count then 1 else transfers

-- the same for all clients, by their ports
pub record AreLeft (o : Opening) (finish : Finish) (count transfers : ℕ) : Type 0 where
  pub sent : ℕ → List Message
  pub each : (p : ℕ) → p < count + 1 → IsClientLeft o finish p (number_at count p) (call_at count p) (count_at count transfers p) (sent p)

-- The server of a storm began with no entry. It had a port for each client and for client 100, and each entry of its history was offered by one of
-- these. Each client has all its replies, which a seat gave after a prefix of that history.
pub record IsServed (o : Opening) (clients transfers : ℕ) (h : List Entry) : Type 0 where
  pub finish : Finish
  pub history_is : h ≡ finish.publisher.history
  pub left : AreLeft o finish clients transfers
  pub grows : GrowsByOffers (clients + 1) left.sent [] h

-- A client of a server that takes requests from ports, and whose seats are asked.
use Rattle.std.specs.Prelude.{ℕ, ◌≡◌, ◌<◌, List}
use Rattle.std.specs.List.{All}
use Rattle.tb_records.specs.Messages.{Message, Answer}
use Rattle.tb_records.specs.Ordered.{Each}
use Rattle.tb_machine.specs.declared.entries.Entry.{Entry}
use Rattle.tb_machine.specs.Histories.{after}
use Rattle.tb_published.specs.Openings.{Opening, LegalIn}
use Rattle.tb_service.specs.OfferedLaws.{GrowsByOffers}
use Rattle.tb_caller.specs.Endpoints.{IsAmong}
use Rattle.tb_caller.specs.Calls.{AreOfOne, IsTaken, NoneInvented, CallsHold}
use Rattle.tb_caller_laws.specs.SeatCalls.{IsFromSeat}

-- each request of the client that a port offered was sent
abbrev pub OffersSent : ℕ → List Message → ℕ → (ℕ → List Message) → Type 0
OffersSent id sent count offered = (p : ℕ) → p < count → All (λ (r : Message). r.client ≡ id → IsAmong r sent) (offered p)

-- a run begins with the history `before`, and ends with another, which comes from what its ports offered
abbrev pub InService : Type 0
InService = (o : Opening) (before h : List Entry) (count : ℕ) (offered : ℕ → List Message) (id : ℕ) (sent : List Message) (returned : List (Message × Answer))
    → LegalIn o h
    → GrowsByOffers count offered before h
    → AreOfOne id sent
    → NoneInvented id sent before
    → OffersSent id sent count offered
    → Each (IsTaken sent) returned
    → Each (λ (p : Message × Answer). IsFromSeat o h p.1) returned
    → CallsHold (after o.profile o.clients_max) id h sent returned

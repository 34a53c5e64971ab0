-- A client of seats.
use Rattle.std.specs.Prelude.{ℕ, List}
use mathlib.Core.List.{IsPrefix}
use Rattle.tb_records.specs.Messages.{Message, Answer}
use Rattle.tb_records.specs.Ordered.{Each}
use Rattle.tb_machine.specs.declared.entries.Entry.{Entry}
use Rattle.tb_machine.specs.Histories.{after}
use Rattle.tb_published.specs.Openings.{Opening, LegalIn, AnswersIn}
use Rattle.tb_caller.specs.Calls.{AreOfOne, IsTaken, NoneInvented, CallsHold}

-- what a seat returned that had seen a prefix of the history, as its contract says
pub record IsFromSeat (o : Opening) (h : List Entry) (a : Answer) : Type 0 where
  pub seen : List Entry
  pub request : Message
  pub prefix : IsPrefix seen h
  pub answers : AnswersIn o seen request a

abbrev pub InSeats : Type 0
InSeats = (o : Opening) (h : List Entry) (id : ℕ) (sent : List Message) (returned : List (Message × Answer))
    → LegalIn o h
    → AreOfOne id sent
    → NoneInvented id sent h
    → Each (IsTaken sent) returned
    → Each (λ (p : Message × Answer). IsFromSeat o h p.1) returned
    → CallsHold (after o.profile o.clients_max) id h sent returned

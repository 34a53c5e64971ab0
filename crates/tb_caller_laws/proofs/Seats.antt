-- What a seat returns is an answer after a prefix of the history.
use Rattle.std.proofs.Common.{List, None}
use Rattle.tb_records.specs.Messages.{Message, Answer}
use Rattle.tb_records.proofs.ByKey.{each-map}
use Rattle.tb_machine.specs.declared.entries.Entry.{Entry}
use Rattle.tb_machine.specs.Histories.{after}
use Rattle.tb_published.specs.Openings.{Opening}
use Rattle.tb_caller.specs.Calls.{IsAnswered}
use Rattle.tb_caller.proofs.Entered.{in_history}
use Rattle.tb_caller_laws.specs.SeatCalls.{IsFromSeat, InSeats}

answered : (o : Opening) (h : List Entry) (a : Answer) → IsFromSeat o h a → IsAnswered (after o.profile o.clients_max) h a
answered o h a is = record { seen = is.seen; request = is.request; prefix = is.prefix; answer = is.answers.1.0 }

pub in_seats : InSeats
in_seats o h id sent returned legal own none taken given =
    in_history o.profile o.clients_max None id h sent returned legal own none taken
    (each-map (λ (p : Message × Answer). IsFromSeat o h p.1) (λ (p : Message × Answer). IsAnswered (after o.profile o.clients_max) h p.1) returned (λ p is. answered o h p.1 is) given)

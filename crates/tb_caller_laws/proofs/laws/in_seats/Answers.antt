use Rattle.tb_caller_laws.proofs.Seats.{in_seats}
use Rattle.tb_caller_laws.proofs.laws.in_seats.Goals as goal

pub returns : goal.returns
returns c = in_seats

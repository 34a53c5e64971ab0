use mathlib.Core.List.{IsPrefix}
use Rattle.tb_published.specs.Openings.{LegalIn, IsAnswerIn}
use Rattle.tb_service.proofs.calling.ask.Given as goal

abbrev pub invariant-loop : goal.invariant-loop
invariant-loop g l = record {
  begins : IsPrefix l.initial.seat l.seat;
  legal : LegalIn g.J.Naming.opening l.seat;
  answer : IsAnswerIn g.J.Naming.opening l.seat l.request l.reply;
}

use Rattle.std.proofs.Common.{◌≡◌, IfOk, subst}
use Rattle.tb_records.specs.Messages.{IsLawful}
use Rattle.tb_machine.specs.Histories.{State, answer_to}
use Rattle.tb_published.specs.Openings.{LegalIn, IsAnswerIn}
use Rattle.tb_published.proofs.Answering.{answers_ok, renamed}
use Rattle.tb_published.proofs.seat.Seat.answer.Goals as goal

pub returns-clause-answer : goal.returns-clause-answer
returns-clause-answer g c =
    let o = g.J.Naming.opening in
    let seen = c.ask.new.self in
    let request = c.args.request.now in
    let found = c.in_ok-answer.answer in
    let asked = c.in_ok-answer.ensures.asked in
    let lawful : IsLawful request = search asked.1 in
    let told : IfOk found (λ reply. reply ≡ answer_to asked.1.0.now request) = search asked.1.1 in
    let is = subst (λ (S : State). IfOk found (λ reply. reply ≡ answer_to S request)) asked.1.2 told in
    renamed found c.map_err.result (λ reply. LegalIn o seen × IsAnswerIn o seen request reply) _ c.map_err.ensures.cases (answers_ok o seen request found asked.0 lawful is)

use Rattle.std.proofs.Common.{◌≡◌, ap, ◌∙◌}
use Rattle.tb_sessions.specs.Judged.{class_of}
use Rattle.tb_machine.specs.Histories.{State, status_of}
use Rattle.tb_published.proofs.Answering.{status_is}
use Rattle.tb_published.proofs.seat.Seat.status.Goals as goal

pub returns-clause-status : goal.returns-clause-status
returns-clause-status g c =
    let request = c.args.request.now in
    let asked = c.in_ok-class.ensures.asked in
    let told : c.in_ok-class.class ≡ class_of asked.1.0.now.rows request = search asked.1.1 in
    let class = told ∙ ap (λ (S : State). class_of S.rows request) asked.1.2 in
    (asked.0, c.status_of.ensures ∙ ap status_of class ∙ status_is g.J.Naming.opening c.ask.new.self request asked.0)

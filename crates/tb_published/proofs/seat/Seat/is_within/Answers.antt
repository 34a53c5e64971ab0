use Rattle.std.proofs.Common.{List, inl, inr, ⊎_elim, subst}
use Rattle.tb_machine.specs.declared.entries.Entry.{Entry}
use Rattle.tb_published.specs.Openings.{OneBegins}
use Rattle.tb_published.proofs.seat.Seat.is_within.Goals as goal

pub returns-clause-one : goal.returns-clause-one
returns-clause-one g c =
    subst (λ (seen : List Entry). OneBegins c.args.front.now.list seen) c.self.view_is (⊎_elim (λ p. inl p.1) (λ p. inr p.1) c.agrees_with.ensures)

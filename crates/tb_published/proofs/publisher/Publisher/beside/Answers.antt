use Rattle.std.proofs.Common.{◌∙◌, ap, subst, sym}
use mathlib.Core.List.{IsPrefix}
use Rattle.tb_published.specs.Openings.{Ends}
use Rattle.tb_published.proofs.Tied.{within_history}
use Rattle.tb_published.proofs.publisher.Publisher.beside.Goals as goal

pub returns-clause-history : goal.returns-clause-history
returns-clause-history g c = λ is.
    let shown = c.tell.ensures ∙ sym (ap (λ (e : Ends). e.shown) c.self.view_is) in
    subst (λ (e : Ends). IsPrefix c.args.seat.now e.history) c.self.view_is
    (within_history c.args.seat.now c.self.invariant (rw shown at c.holds-2.ensures.one) (rw shown at (c.holds-2.ensures.all.0 is)))

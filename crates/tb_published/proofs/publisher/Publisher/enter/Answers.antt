use Rattle.std.proofs.Common.{◌∙◌, ap, subst}
use Rattle.tb_published.specs.Openings.{LegalIn, after_in, Ends}
use Rattle.tb_published.specs.private.Entering.{EntersBy}
use Rattle.tb_published.proofs.EntryTable.{enters_by, tied_by}
use Rattle.tb_published.proofs.publisher.Publisher.enter.Goals as goal

pub invariant_of-self : goal.invariant_of-self
invariant_of-self g c =
    tied_by c.args.request c.args.now c.enter_into.result c.enter_into.new.machine c.enter_into.new.history.items c.self.invariant c.enter_into.ensures.lawful c.enter_into.ensures.entered

pub returns-clause-history : goal.returns-clause-history
returns-clause-history g c =
    let h = c.args.self.now.history in
    enters_by g.J.Naming.opening h c.args.request c.args.now c.self.inside.machine c.enter_into.result c.enter_into.new.machine c.enter_into.new.history.items
    (c.self.invariant.machine_is ∙ ap (λ (e : Ends). after_in g.J.Naming.opening e.history) c.self.view_is)
    (subst (λ (e : Ends). LegalIn g.J.Naming.opening e.history) c.self.view_is c.self.invariant.legal)
    (subst (λ (e : Ends). EntersBy c.self.inside.machine e.history c.args.request c.args.now c.enter_into.result c.enter_into.new.machine c.enter_into.new.history.items) c.self.view_is c.enter_into.ensures.entered)

use Rattle.std.proofs.Common.{List, Ok, Err, ◌∙◌, subst, sym}
use Rattle.std.proofs.lemmas.Result.{err_from_is_err_and}
use mathlib.Core.List.{IsPrefix}
use Rattle.tb_machine.specs.declared.entries.Entry.{Entry}
use Rattle.tb_published.specs.Taking.{Enters, TakesRequest}
use Rattle.tb_published.proofs.EntryTable.{takes_unshown}
use Rattle.tb_published.proofs.publisher.Publisher.take.Goals as goal

pub returns-in_err-show-clause-history : goal.returns-in_err-show-clause-history
returns-in_err-show-clause-history g c =
    let o = g.J.Naming.opening in
    let f = c.in_err-show.field-0.0 in
    let m = c.show-2.new.self.history in
    let s = c.show-2.new.self.shown in
    let p = err_from_is_err_and c.from_residual-in_err-show.result c.from_residual-in_err-show.ensures.1 in
    let by = subst (λ (m : List Entry). Enters o c.show.new.self.history c.args.request c.args.now (Ok c.in_ok-taken.taken) m) (sym c.in_err-show.ensures.history) c.in_ok-taken.ensures.history in
    let front = subst (λ (xs : List Entry). IsPrefix xs s) (c.enter.ensures.shown ∙ c.in_default.ensures.ends.1) c.in_err-show.ensures.shown in
    rw (p.1, p.2) (subst (λ (h : List Entry). TakesRequest o h c.args.request c.args.now (Err f) m s) c.show.ensures.history
    (takes_unshown o c.show.new.self.history c.args.request c.args.now c.in_ok-taken.taken f m s by front c.in_err-show.ensures.ends))

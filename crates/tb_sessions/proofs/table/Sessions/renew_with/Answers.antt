use Rattle.std.proofs.Common.{◌≡◌, Some, None, sym, ap, ◌∙◌, subst}
use Rattle.avl_tree.specs.Map.{entries}
use Rattle.tb_records.proofs.Entries.{found-row}
use Rattle.tb_sessions.specs.Judged.{row_of, client_of}
use Rattle.tb_sessions.specs.Admission.{Table}
use Rattle.tb_sessions.specs.Renewal.{Renews}
use Rattle.tb_sessions.proofs.Renewing.{same_oldest, index_served, rows_served, entries_left}
use Rattle.tb_sessions.proofs.ByRow.{class_by}
use Rattle.tb_sessions.proofs.table.Sessions.renew_with.Goals as goal

pub serve_by_client-requires : goal.serve_by_client-requires
serve_by_client-requires g c = record {
  callable = λ row found new.
      let here : row_of c.args.self.now.rows c.args.request.now.client ≡ Some row = rw (← c.self.view_is) (sym (found-row client_of c.args.request.now.client (entries c.self.inside.rows) c.self.invariant.indexed.own) ∙ found) in
      c.requires.callable row (record { here = here; new = new });
}

pub bring_up-requires : goal.bring_up-requires
bring_up-requires g c =
    let kept = rw c.in-Some-Ok.field-0-is at c.in-Some-Ok.ensures.served in
    let renews = subst (λ (t : Table). Renews g.F.FnMut c.args.serve.now t.rows c.args.request.now) (sym c.self.view_is) c.requires.renews in
    index_served g.F.FnMut c.serve_by_client.new.serve c.serve_by_client.new.request c.serve_by_client.new.rows c.in-Some-Ok.answer kept c.self.invariant.indexed renews c.serve_by_client.ensures.spare

pub invariant_of-self-in-Some-Err : goal.invariant_of-self-in-Some-Err
invariant_of-self-in-Some-Err g c =
    let kept = rw c.in-Some-Err.field-0-is at c.in-Some-Err.ensures.served in
    let same = entries_left g.F.FnMut c.serve_by_client.new.serve c.serve_by_client.new.request c.serve_by_client.new.rows c.in-Some-Err.class kept in
    same_oldest c.serve_by_client.new.rows same c.serve_by_client.ensures.spare c.self.invariant

pub returns-in-Some-Ok-clause-served : goal.returns-in-Some-Ok-clause-served
returns-in-Some-Ok-clause-served g c =
    let kept = rw c.in-Some-Ok.field-0-is at c.in-Some-Ok.ensures.served in
    let renews = subst (λ (t : Table). Renews g.F.FnMut c.args.serve.now t.rows c.args.request.now) (sym c.self.view_is) c.requires.renews in
    rw (← c.self.view_is) (rows_served g.F.FnMut c.serve_by_client.new.serve c.serve_by_client.new.request c.serve_by_client.new.rows c.in-Some-Ok.answer kept c.self.invariant.indexed renews)

pub returns-in-Some-Err-clause-told : goal.returns-in-Some-Err-clause-told
returns-in-Some-Err-clause-told g c =
    let kept = rw c.in-Some-Err.field-0-is at c.in-Some-Err.ensures.served in
    let here : row_of c.args.self.now.rows c.args.request.now.client ≡ Some kept.row = rw (← c.self.view_is) (sym (found-row client_of c.args.request.now.client (entries c.self.inside.rows) c.self.invariant.indexed.own) ∙ kept.found) in
    (kept.beside.told.0 ∙ ap (λ o. class_by o c.args.request.now) (sym here), λ new. absurd (kept.beside.told.1 new))

pub returns-in-Some-Err-clause-unchanged : goal.returns-in-Some-Err-clause-unchanged
returns-in-Some-Err-clause-unchanged g c =
    let kept = rw c.in-Some-Err.field-0-is at c.in-Some-Err.ensures.served in
    let same = entries_left g.F.FnMut c.serve_by_client.new.serve c.serve_by_client.new.request c.serve_by_client.new.rows c.in-Some-Err.class kept in
    (rw same c.self.view_is, kept.beside.unchanged.0, kept.beside.unchanged.1)

pub returns-in-None-clause-told : goal.returns-in-None-clause-told
returns-in-None-clause-told g c =
    let unserved = c.in-None.ensures.absent in
    let none : row_of c.args.self.now.rows c.args.request.now.client ≡ None = rw (← c.self.view_is) (sym (found-row client_of c.args.request.now.client (entries c.self.inside.rows) c.self.invariant.indexed.own) ∙ unserved.absent) in
    let class = rw unserved.request_same at c.class_alone.ensures in
    (class ∙ ap (λ o. class_by o c.args.request.now) (sym none), λ new. none)

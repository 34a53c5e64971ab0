use Rattle.std.proofs.Common.{◌≡◌, ◌<◌, length, find, None, refl, ap, ◌∙◌, ◌==◌, arith}
use Rattle.std.specs.Ordering.{nat_cmp}
use Rattle.std.specs.Map.{values_of}
use Rattle.std.proofs.lemmas.Map.Entries.{length-values_of}
use Rattle.avl_tree.specs.Map.{entries}
use Rattle.tb_records.specs.Ordered.{Each}
use Rattle.tb_sessions.specs.declared.rows.Row.{Row}
use Rattle.tb_sessions.specs.Judged.{client_of}
use Rattle.tb_sessions.specs.Admission.{Table}
use Rattle.tb_records.proofs.Entries.{found-row, rows-inserted, own-agrees}
use Rattle.tb_sessions.proofs.Index.{fresh, index_in}
use Rattle.tb_sessions.proofs.table.Sessions.put_in.Goals as goal

pub insert_reserved-requires-clause-absent : goal.insert_reserved-requires-clause-absent
insert_reserved-requires-clause-absent c =
    let later : Each (λ (other : Row). other.commit < c.args.row.commit) (values_of (entries c.self.inside.rows)) = rw (ap (λ (t : Table). t.rows) c.self.view_is) c.requires.later in
    fresh c.self.invariant.indexed c.args.row.commit later

pub insert_reserved-requires-2-clause-absent : goal.insert_reserved-requires-2-clause-absent
insert_reserved-requires-2-clause-absent c =
    let absent : find (λ row. client_of row == c.args.row.client) (values_of (entries c.self.inside.rows)) ≡ None = rw (ap (λ (t : Table). t.rows) c.self.view_is) c.requires.absent in
    found-row client_of c.args.row.client (entries c.self.inside.rows) c.self.invariant.indexed.own ∙ absent

pub bring_up-requires : goal.bring_up-requires
bring_up-requires c =
    let es = entries c.self.inside.rows in
    let rows = ap (λ (t : Table). t.rows) c.self.view_is in
    let later : Each (λ (other : Row). other.commit < c.args.row.commit) (values_of es) = rw rows c.requires.later in
    let absent : find (λ row. client_of row == c.args.row.client) (values_of es) ≡ None = rw rows c.requires.absent in
    let capacity : length es < c.self.inside.clients_max = omega (arith, length-values_of es, ap length rows, ap (λ (t : Table). t.clients_max) c.self.view_is, c.requires.capacity) in
    index_in c.self.invariant.indexed c.args.row (found-row client_of c.args.row.client es c.self.invariant.indexed.own ∙ absent) later c.insert_reserved-2.ensures.entries c.insert_reserved.ensures.entries c.insert_reserved-2.ensures.spare c.insert_reserved.ensures.spare capacity

pub returns : goal.returns
returns c =
    let absent : find (λ row. client_of row == c.args.row.client) (values_of (entries c.self.inside.rows)) ≡ None = rw (ap (λ (t : Table). t.rows) c.self.view_is) c.requires.absent in
    rw (← c.self.view_is, c.insert_reserved-2.ensures.entries, rows-inserted nat_cmp (λ e. e.1) client_of c.args.row.client c.args.row.client c.args.row (entries c.self.inside.rows) refl (own-agrees client_of c.args.row.client (entries c.self.inside.rows) c.self.invariant.indexed.own) absent) refl

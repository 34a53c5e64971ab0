use Rattle.std.proofs.Common.{◌≡◌, ◌≤◌, length, refl, sym, ap, ◌∙◌, arith}
use Rattle.std.proofs.lemmas.Map.Entries.{length-values_of}
use Rattle.std.specs.Map.{values_of}
use Rattle.std.specs.Ordering.{nat_cmp}
use Rattle.avl_tree.specs.Map.{entries}
use Rattle.avl_tree.proofs.SplitEntries.{length-remove_entry_found}
use Rattle.tb_records.proofs.ByKey.{found_key}
use Rattle.tb_records.proofs.Entries.{found-row, rows-removed, own-agrees}
use Rattle.tb_sessions.specs.Judged.{client_of}
use Rattle.tb_sessions.specs.Admission.{Table}
use Rattle.tb_sessions.proofs.Index.{inside, nothing, first_found, first_row, first_out, oldest_first, index_out}
use Rattle.tb_sessions.proofs.table.Sessions.drive_out.Goals as goal

pub unreachable-requires-in_default-remove : goal.unreachable-requires-in_default-remove
unreachable-requires-in_default-remove c =
    let full : c.self.inside.clients_max ≤ length (entries c.self.inside.rows) = omega (arith, length-values_of (entries c.self.inside.rows), ap (λ (t : Table). length t.rows) c.self.view_is, ap (λ (t : Table). t.clients_max) c.self.view_is, c.requires) in
    let row = first_row c.self.invariant full c.in-Some.field-0-0 c.in-Some.client (sym c.in-Some.ensures.pair) in
    nothing (sym c.remove.ensures.value ∙ c.in_default-remove.is) row.1

pub invariant_of-self : goal.invariant_of-self
invariant_of-self c =
    let here = sym c.remove.ensures.value ∙ c.in-Some-remove.is in
    let clients = first_out (entries c.self.inside.clients) (entries c.pop_first.new.self) c.in-Some.field-0-0 c.in-Some.client c.in-Some.ensures.rest in
    index_out c.self.invariant.indexed c.in-Some-remove.row c.in-Some.client c.in-Some.field-0-0 here (first_found (entries c.self.inside.clients) c.in-Some.field-0-0 c.in-Some.client (sym c.in-Some.ensures.pair)) c.remove.ensures.entries clients c.in-Some-remove.ensures.spare c.in-Some.ensures.spare

pub returns-clause-table : goal.returns-clause-table
returns-clause-table c =
    let es = entries c.self.inside.rows in
    let here = sym c.remove.ensures.value ∙ c.in-Some-remove.is in
    let owner : client_of c.in-Some-remove.row ≡ c.in-Some.client = found_key client_of c.in-Some.client c.in-Some-remove.row (values_of es) (sym (found-row client_of c.in-Some.client es c.self.invariant.indexed.own) ∙ here) in
    rw (← c.self.view_is, c.remove.ensures.entries, owner, rows-removed nat_cmp (λ e. e.1) client_of c.in-Some.client c.in-Some.client es (own-agrees client_of c.in-Some.client es c.self.invariant.indexed.own)) refl

pub returns-clause-left : goal.returns-clause-left
returns-clause-left c =
    let full : c.self.inside.clients_max ≤ length (entries c.self.inside.rows) = omega (arith, length-values_of (entries c.self.inside.rows), ap (λ (t : Table). length t.rows) c.self.view_is, ap (λ (t : Table). t.clients_max) c.self.view_is, c.requires) in
    let row = first_row c.self.invariant full c.in-Some.field-0-0 c.in-Some.client (sym c.in-Some.ensures.pair) in
    let here = sym c.remove.ensures.value ∙ c.in-Some-remove.is in
    let commit = ap (λ r. r.commit) (inside (sym here ∙ row.1)) ∙ row.2 in
    rw (← c.self.view_is) (oldest_first c.self.invariant.indexed c.in-Some.field-0-0 c.in-Some.client c.in-Some-remove.row (sym c.in-Some.ensures.pair) here commit)

pub returns-clause-capacity : goal.returns-clause-capacity
returns-clause-capacity c =
    let es = entries c.self.inside.rows in
    let here = sym c.remove.ensures.value ∙ c.in-Some-remove.is in
    omega (arith, length-values_of es, length-values_of (entries c.remove.new.self), ap length c.remove.ensures.entries, length-remove_entry_found nat_cmp c.in-Some.client c.in-Some-remove.row es here, ap (λ (t : Table). length t.rows) c.self.view_is)

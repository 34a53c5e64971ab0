use Rattle.tb_ledger.proofs.Common.{sym, ap, ◌∙◌, entries, spare_in}
use Rattle.tb_ledger.proofs.Entries.{holds, holds_replaced, set-either}
use Rattle.tb_ledger.proofs.tables.map.Table.replace.Goals as goal

pub invariant_of-self-2 : goal.invariant_of-self-2
invariant_of-self-2 g c =
    let key = g.V.Keyed.key in
    let known = c.self.inside.absent_ids in
    let items = c.args.self.now.items in
    let has = holds key known c.self.inside.rows c.in-Some.rows items c.self.invariant c.in-Some.is (ap (λ t. t.items) c.self.view_is) in
    (holds_replaced key known (entries c.in-Some.rows) items has c.args.row c.key.result (entries c.set.new.self) (sym c.key.ensures) (set-either c.in-Some.rows c.set.new.self c.set.result c.key.result c.args.row c.set.ensures.written c.set.ensures.absent)).knows

pub returns-clause-table : goal.returns-clause-table
returns-clause-table g c =
    let key = g.V.Keyed.key in
    let known = c.self.inside.absent_ids in
    let items = c.args.self.now.items in
    let has = holds key known c.self.inside.rows c.in-Some.rows items c.self.invariant c.in-Some.is (ap (λ t. t.items) c.self.view_is) in
    let is = (holds_replaced key known (entries c.in-Some.rows) items has c.args.row c.key.result (entries c.set.new.self) (sym c.key.ensures) (set-either c.in-Some.rows c.set.new.self c.set.result c.key.result c.args.row c.set.ensures.written c.set.ensures.absent)).is in
    let spare = sym (ap spare_in c.in-Some.is) ∙ ap (λ t. t.spare) c.self.view_is in
    λ i. record { items = is i; spare = (c.set.ensures.spare ∙ spare) i }

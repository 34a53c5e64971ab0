use Rattle.tb_ledger.proofs.Common.{◌≡◌, ◌-◌, sym, ap, subst, ◌∙◌, arith, entries, spare_in, MayBeKey}
use Rattle.tb_ledger.proofs.Entries.{found_in}
use Rattle.tb_ledger.proofs.Entries.{holds, holds_put}
use Rattle.tb_ledger.proofs.tables.map.Table.insert_reserved.Goals as goal

pub insert_reserved-requires-clause-absent : goal.insert_reserved-requires-clause-absent
insert_reserved-requires-clause-absent g c =
    let key = g.V.Keyed.key in
    let known = c.self.inside.absent_ids in
    let items = c.args.self.now.items in
    let has = holds key known c.self.inside.rows c.in-Some.rows items c.self.invariant c.in-Some.is (ap (λ t. t.items) c.self.view_is) in
    rw c.key-2.ensures (found_in key known (entries c.in-Some.rows) items has (key c.args.row) ∙ c.requires.absent)

pub invariant_of-self-2 : goal.invariant_of-self-2
invariant_of-self-2 g c =
    let key = g.V.Keyed.key in
    let known = c.self.inside.absent_ids in
    let items = c.args.self.now.items in
    let has = holds key known c.self.inside.rows c.in-Some.rows items c.self.invariant c.in-Some.is (ap (λ t. t.items) c.self.view_is) in
    let here = subst (MayBeKey c.admit.new.self) c.key.ensures c.admit.ensures.here in
    (holds_put key known c.admit.new.self (entries c.in-Some.rows) items has c.args.row c.key-2.result (entries c.insert_reserved.new.self) c.key-2.ensures here c.admit.ensures.others c.requires.absent c.insert_reserved.ensures.entries).knows

pub returns-clause-table : goal.returns-clause-table
returns-clause-table g c =
    let key = g.V.Keyed.key in
    let known = c.self.inside.absent_ids in
    let items = c.args.self.now.items in
    let has = holds key known c.self.inside.rows c.in-Some.rows items c.self.invariant c.in-Some.is (ap (λ t. t.items) c.self.view_is) in
    let here = subst (MayBeKey c.admit.new.self) c.key.ensures c.admit.ensures.here in
    let is = (holds_put key known c.admit.new.self (entries c.in-Some.rows) items has c.args.row c.key-2.result (entries c.insert_reserved.new.self) c.key-2.ensures here c.admit.ensures.others c.requires.absent c.insert_reserved.ensures.entries).is in
    let spare = sym (ap spare_in c.in-Some.is) ∙ ap (λ t. t.spare) c.self.view_is in
    let one_less : c.insert_reserved.new.self.spare ≡ c.args.self.now.spare - 1 = omega (arith, c.insert_reserved.ensures.spare, spare) in
    λ i. record { items = is i; spare = one_less i }

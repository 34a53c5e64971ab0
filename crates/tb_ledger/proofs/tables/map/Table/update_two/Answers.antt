use Rattle.tb_ledger.proofs.Common.{◌≡◌, false, eqb, ap, ◌∙◌, arith, nat_tests, eq-number}
use Rattle.tb_ledger.proofs.Entries.{holds, updates_two}
use Rattle.tb_ledger.proofs.tables.map.Table.update_two.Goals as goal

pub invariant_of-self-2 : goal.invariant_of-self-2
invariant_of-self-2 g c =
    let key = g.V.Keyed.key in
    let known = c.self.inside.absent_ids in
    let items = c.args.self.now.items in
    let has = holds key known c.self.inside.rows c.in-Some.rows items c.self.invariant c.in-Some.is (ap (λ t. t.items) c.self.view_is) in
    (updates_two key g.F.FnMut c.requires.keeps c.args.a c.args.b known c.in-Some.rows c.update_two.new.self items has c.args.f.now c.update_two.new.f c.update_two.result c.update_two.ensures.changed c.update_two.ensures.absent).knows

pub returns-clause-changed : goal.returns-clause-changed
returns-clause-changed g c =
    let key = g.V.Keyed.key in
    let known = c.self.inside.absent_ids in
    let items = c.args.self.now.items in
    let has = holds key known c.self.inside.rows c.in-Some.rows items c.self.invariant c.in-Some.is (ap (λ t. t.items) c.self.view_is) in
    (updates_two key g.F.FnMut c.requires.keeps c.args.a c.args.b known c.in-Some.rows c.update_two.new.self items has c.args.f.now c.update_two.new.f c.update_two.result c.update_two.ensures.changed c.update_two.ensures.absent).changed

pub returns-clause-absent : goal.returns-clause-absent
returns-clause-absent g c =
    let key = g.V.Keyed.key in
    let known = c.self.inside.absent_ids in
    let items = c.args.self.now.items in
    let has = holds key known c.self.inside.rows c.in-Some.rows items c.self.invariant c.in-Some.is (ap (λ t. t.items) c.self.view_is) in
    (updates_two key g.F.FnMut c.requires.keeps c.args.a c.args.b known c.in-Some.rows c.update_two.new.self items has c.args.f.now c.update_two.new.f c.update_two.result c.update_two.ensures.changed c.update_two.ensures.absent).absent

pub update_two-requires-clause-differ : goal.update_two-requires-clause-differ
update_two-requires-clause-differ g c =
    let differ = c.requires.differ in
    let other : eqb c.args.b c.args.a ≡ false = grind (arith, nat_tests) in
    eq-number c.args.a c.args.b ∙ other

use Rattle.tb_ledger.proofs.Common.{ap, [], ◌∷◌}
use Rattle.tb_ledger.proofs.Entries.{holds, updates}
use Rattle.tb_ledger.proofs.tables.map.Table.update.Goals as goal

pub update-requires : goal.update-requires
update-requires g c = λ v found y is. (c.requires.callable.at ((y, tt) ∷ [])).0

pub invariant_of-self-2 : goal.invariant_of-self-2
invariant_of-self-2 g c =
    let key = g.V.Keyed.key in
    let known = c.self.inside.absent_ids in
    let items = c.args.self.now.items in
    let has = holds key known c.self.inside.rows c.in-Some.rows items c.self.invariant c.in-Some.is (ap (λ t. t.items) c.self.view_is) in
    (updates key g.F.FnMut c.requires.keeps c.args.id known c.in-Some.rows c.update.new.self items has c.args.f.now c.update.new.f c.update.result c.update.ensures.changed c.update.ensures.absent).knows

pub returns-clause-changed : goal.returns-clause-changed
returns-clause-changed g c =
    let key = g.V.Keyed.key in
    let known = c.self.inside.absent_ids in
    let items = c.args.self.now.items in
    let has = holds key known c.self.inside.rows c.in-Some.rows items c.self.invariant c.in-Some.is (ap (λ t. t.items) c.self.view_is) in
    (updates key g.F.FnMut c.requires.keeps c.args.id known c.in-Some.rows c.update.new.self items has c.args.f.now c.update.new.f c.update.result c.update.ensures.changed c.update.ensures.absent).changed

pub returns-clause-absent : goal.returns-clause-absent
returns-clause-absent g c =
    let key = g.V.Keyed.key in
    let known = c.self.inside.absent_ids in
    let items = c.args.self.now.items in
    let has = holds key known c.self.inside.rows c.in-Some.rows items c.self.invariant c.in-Some.is (ap (λ t. t.items) c.self.view_is) in
    (updates key g.F.FnMut c.requires.keeps c.args.id known c.in-Some.rows c.update.new.self items has c.args.f.now c.update.new.f c.update.result c.update.ensures.changed c.update.ensures.absent).absent

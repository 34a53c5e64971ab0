use Rattle.tb_ledger.proofs.Common.{◌≤◌, length, sym, ap, subst, ◌∙◌, entries, nat_cmp, length-values_of, least}
use Rattle.tb_ledger.proofs.Entries.{holds, found_in, no_visits}
use Rattle.tb_ledger.proofs.tables.map.Table.probe.Goals as goal

pub returns-in-Some-clause-row : goal.returns-in-Some-clause-row
returns-in-Some-clause-row g c =
    let key = g.V.Keyed.key in
    let known = c.self.inside.absent_ids in
    let items = c.args.self.now.items in
    let has = holds key known c.self.inside.rows c.in-Some.rows items c.self.invariant c.in-Some.is (ap (λ t. t.items) c.self.view_is) in
    c.probe.ensures.value ∙ found_in key known (entries c.in-Some.rows) items has c.args.id

pub returns-in-Some-clause-visits : goal.returns-in-Some-clause-visits
returns-in-Some-clause-visits g c =
    let key = g.V.Keyed.key in
    let known = c.self.inside.absent_ids in
    let items = c.args.self.now.items in
    let has = holds key known c.self.inside.rows c.in-Some.rows items c.self.invariant c.in-Some.is (ap (λ t. t.items) c.self.view_is) in
    let shallow = c.probe.ensures.shallow in
    let count = sym (ap length has.is) in
    rw count (record {
      height = shallow.0;
      at_most = shallow.1;
      enough = subst (λ n. least shallow.0 ≤ n) (sym (length-values_of (entries c.in-Some.rows))) shallow.2;
      none = λ is. no_visits (nat_cmp c.args.id) c.in-Some.rows.tree (sym c.probe.ensures.visits ∙ is);
    })

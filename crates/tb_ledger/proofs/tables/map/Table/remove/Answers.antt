use Rattle.tb_ledger.proofs.Common.{◌+◌, ◌==◌, find, is_some, if◌then◌else◌, sym, ap, ◌∙◌, entries, freed, spare_in}
use Rattle.tb_ledger.proofs.Entries.{found_in, holds, holds_removed}
use Rattle.tb_ledger.proofs.tables.map.Table.remove.Goals as goal

pub invariant_of-self-2 : goal.invariant_of-self-2
invariant_of-self-2 g c =
    let key = g.V.Keyed.key in
    let known = c.self.inside.absent_ids in
    let items = c.args.self.now.items in
    let has = holds key known c.self.inside.rows c.in-Some.rows items c.self.invariant c.in-Some.is (ap (λ t. t.items) c.self.view_is) in
    (holds_removed key known (entries c.in-Some.rows) items has c.args.id (entries c.remove.new.self) c.remove.ensures.entries).knows

pub returns-clause-rows : goal.returns-clause-rows
returns-clause-rows g c =
    let key = g.V.Keyed.key in
    let known = c.self.inside.absent_ids in
    let items = c.args.self.now.items in
    let has = holds key known c.self.inside.rows c.in-Some.rows items c.self.invariant c.in-Some.is (ap (λ t. t.items) c.self.view_is) in
    (holds_removed key known (entries c.in-Some.rows) items has c.args.id (entries c.remove.new.self) c.remove.ensures.entries).is

pub returns-clause-capacity : goal.returns-clause-capacity
returns-clause-capacity g c =
    let key = g.V.Keyed.key in
    let known = c.self.inside.absent_ids in
    let items = c.args.self.now.items in
    let has = holds key known c.self.inside.rows c.in-Some.rows items c.self.invariant c.in-Some.is (ap (λ t. t.items) c.self.view_is) in
    let same = ap is_some (c.remove.ensures.value ∙ found_in key known (entries c.in-Some.rows) items has c.args.id) in
    let here = sym (ap spare_in c.in-Some.is) ∙ ap (λ t. t.spare) c.self.view_is in
    c.remove.ensures.spare ∙ ap (λ b. c.in-Some.rows.spare + (if b then 1 else 0)) same ∙ ap (λ n. n + freed (find (λ row. key row == c.args.id) items)) here

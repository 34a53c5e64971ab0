use Rattle.tb_ledger.proofs.Common.{◌∙◌, ap, find, ◌==◌, entries, rows_in, MayBeKey}
use Rattle.tb_ledger.proofs.AbsentKeys.{none-unlike}
use Rattle.tb_ledger.proofs.Entries.{holds, found_in}
use Rattle.tb_ledger.proofs.tables.map.Table.get.Goals as goal

pub returns-then-excludes : goal.returns-then-excludes
returns-then-excludes g c =
    none-unlike g.V.Keyed.key (MayBeKey c.self.inside.absent_ids) c.args.id (rows_in c.self.inside.rows) c.self.invariant.may (c.excludes.ensures c.if-excludes.true)
    ∙ ap (λ t. find (λ row. g.V.Keyed.key row == c.args.id) t.items) c.self.view_is

pub returns-in-Some : goal.returns-in-Some
returns-in-Some g c =
    let key = g.V.Keyed.key in
    let known = c.self.inside.absent_ids in
    let items = c.args.self.now.items in
    let has = holds key known c.self.inside.rows c.in-Some.rows items c.self.invariant c.in-Some.is (ap (λ t. t.items) c.self.view_is) in
    c.get.ensures ∙ found_in key known (entries c.in-Some.rows) items has c.args.id

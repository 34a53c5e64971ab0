use Rattle.tb_ledger.proofs.Common.{◌≡◌, [], None, replicate, ◌∙◌, ap, sym, rules, entries}
use Rattle.tb_ledger.proofs.FoundIds.{none-many}
use Rattle.tb_ledger.proofs.Entries.{holds, found_all}
use Rattle.tb_ledger.proofs.tables.map.Table.get_many.Goals as goal

pub returns-in-Some : goal.returns-in-Some
returns-in-Some g c =
    let key = g.V.Keyed.key in
    let known = c.self.inside.absent_ids in
    let items = c.args.self.now.items in
    let has = holds key known c.self.inside.rows c.in-Some.rows items c.self.invariant c.in-Some.is (ap (λ t. t.items) c.self.view_is) in
    c.get_many.ensures ∙ found_all key known (entries c.in-Some.rows) items has c.args.ids.now

pub returns-in-None : goal.returns-in-None
returns-in-None g c =
    let none : c.args.self.now.items ≡ [] = search rules in
    sym (none-many g.V.Keyed.key c.args.self.now.items c.args.ids.now none ∙ ap (λ n. replicate n None) c.told-ids)

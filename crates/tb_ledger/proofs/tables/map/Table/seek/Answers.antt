use Rattle.tb_ledger.proofs.Common.{sym, ap, ◌∙◌, map, option_copied, find, ◌==◌, rows_in}
use Rattle.tb_ledger.proofs.AbsentKeys.{known-unfound, known-unsought}
use Rattle.tb_ledger.proofs.tables.map.Table.seek.Goals as goal

-- if nothing is looked for
pub invariant_of-self : goal.invariant_of-self
invariant_of-self g c =
    record { table = c.self.invariant.table; may = known-unsought g.V.Keyed.key c.self.inside.absent_ids (rows_in c.self.inside.rows) c.self.invariant.may }

pub invariant_of-self-2 : goal.invariant_of-self-2
invariant_of-self-2 g c =
    let key = g.V.Keyed.key in
    let found = c.get_many.ensures ∙ ap (λ t. map (λ id. find (λ row. key row == id) t.items) c.args.ids.now) (sym c.self.view_is) in
    rw c.unfound-absent.ensures (record {
      table = c.self.invariant.table;
      may = known-unfound key c.self.inside.absent_ids c.args.ids.now (map option_copied c.get_many.result) (rows_in c.self.inside.rows) found c.self.invariant.may;
    })

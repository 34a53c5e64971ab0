use Rattle.std.proofs.Common.{◌<◌, refl, sym, ap, ◌∙◌}
use Rattle.std.specs.Map.{values_of}
use Rattle.avl_tree.specs.Map.{entries}
use Rattle.tb_records.specs.Ordered.{Each}
use Rattle.tb_sessions.specs.declared.rows.Row.{Row}
use Rattle.tb_sessions.specs.Judged.{client_of}
use Rattle.tb_sessions.specs.Admission.{Table}
use Rattle.tb_records.proofs.Entries.{found-row, rows-replaced}
use Rattle.tb_sessions.proofs.Index.{index_renewed}
use Rattle.tb_sessions.proofs.table.Sessions.renew.Goals as goal

pub bring_up-requires : goal.bring_up-requires
bring_up-requires c =
    let later : Each (λ (other : Row). other.commit < c.args.row.now.commit) (values_of (entries c.self.inside.rows)) = rw (ap (λ (t : Table). t.rows) c.self.view_is) c.requires.later in
    let found = c.if-not-exchange.false in
    index_renewed c.self.invariant.indexed c.args.row.now c.exchange.new.value (c.exchange.ensures.old found) later (c.exchange.ensures.written found) c.exchange.ensures.spare

pub returns-clause-renewed : goal.returns-clause-renewed
returns-clause-renewed c = λ _.
    let es = entries c.self.inside.rows in
    let own = c.self.invariant.indexed.own in
    let found = c.if-not-exchange.false in
    let written = c.exchange.ensures.written found in
    rw (← c.self.view_is) (sym (found-row client_of c.args.row.now.client es own) ∙ c.exchange.ensures.old found, rw (written, rows-replaced client_of c.args.row.now c.args.row.now.client es refl own) refl)

pub returns-then-not-exchange-clause-absent : goal.returns-then-not-exchange-clause-absent
returns-then-not-exchange-clause-absent c = λ _.
    let es = entries c.self.inside.rows in
    let unchanged = c.exchange.ensures.absent c.if-not-exchange.true in
    let same = unchanged.2 in
    (unchanged.1, rw (← c.self.view_is) (sym (found-row client_of c.args.row.now.client es c.self.invariant.indexed.own) ∙ unchanged.0), rw same c.self.view_is)

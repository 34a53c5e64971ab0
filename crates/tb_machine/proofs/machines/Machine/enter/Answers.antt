use Rattle.std.proofs.Common.{refl, sym, ap, subst, IsTrue}
use Rattle.tb_sessions.specs.declared.rows.Row.{Row}
use Rattle.tb_sessions.specs.Admission.{Table}
use Rattle.tb_machine.specs.Histories.{State, fits}
use Rattle.tb_machine.proofs.Judging.{may_come}
use Rattle.tb_machine.proofs.SoundSteps.{may_be_executed, commits_before, sound_step}
use Rattle.tb_machine.proofs.machines.Machine.enter.Goals as goal

pub row_for-requires : goal.row_for-requires
row_for-requires g c =
    let S : State = record { clients_max = c.self.inside.sessions.clients_max; commit = c.self.inside.commit; books = c.self.inside.ledger; rows = c.self.inside.sessions.rows } in
    may_be_executed S c.args.entry c.self.invariant (subst (λ (T : State). IsTrue (fits T c.args.entry)) (sym c.self.view_is) c.requires)

pub keep_row-requires-clause-later : goal.keep_row-requires-clause-later
keep_row-requires-clause-later g c =
    let S : State = record { clients_max = c.self.inside.sessions.clients_max; commit = c.self.inside.commit; books = c.self.inside.ledger; rows = c.self.inside.sessions.rows } in
    let row = c.in-Ok.ensures.1 in
    rw row (commits_before S c.args.entry c.self.invariant (subst (λ (T : State). IsTrue (fits T c.args.entry)) (sym c.self.view_is) c.requires))

pub keep_row-requires-clause-new : goal.keep_row-requires-clause-new
keep_row-requires-clause-new g c =
    let S : State = record { clients_max = c.self.inside.sessions.clients_max; commit = c.self.inside.commit; books = c.self.inside.ledger; rows = c.self.inside.sessions.rows } in
    let row = c.in-Ok.ensures.1 in
    rw row (may_come S c.args.entry (subst (λ (T : State). IsTrue (fits T c.args.entry)) (sym c.self.view_is) c.requires)).new

pub invariant_of-self : goal.invariant_of-self
invariant_of-self g c =
    let S : State = record { clients_max = c.self.inside.sessions.clients_max; commit = c.self.inside.commit; books = c.self.inside.ledger; rows = c.self.inside.sessions.rows } in
    let row = c.in-Ok.ensures.1 in
    sound_step S c.args.entry c.self.invariant (subst (λ (T : State). IsTrue (fits T c.args.entry)) (sym c.self.view_is) c.requires) c.in-Ok.row (ap (λ (r : Row). r.session) row) (ap (λ (r : Row). r.commit) row) _ refl c.in-Ok.ensures.0 (ap (λ (t : Table). t.rows) c.keep_row.ensures)

use Rattle.std.proofs.Common.{◌≡◌, true, false, is_none, sym, ap, ◌∙◌, eqb-true, leb-true, arith}
use Rattle.tb_machine.specs.Histories.{State}
use Rattle.tb_machine.proofs.Judging.{comes}
use Rattle.tb_machine.proofs.machines.Machine.fits.Goals as goal
use Rattle.tb_machine.proofs.machines.Machine.fits.Goals.{then-entry-self, else-entry-self, then-least_time-entry, else-least_time-entry}

-- each test was passed
pub returns-in-New : goal.returns-in-New
returns-in-New g c =
    elim c.if-least_time-entry.branch [
      | then-least_time-entry w ↦ elim c.if-entry-self.branch [
        | then-entry-self v ↦ sym (comes c.args.self.now c.args.entry.now (record {
          commit = omega (arith, v.if-entry-self.true, ap (λ (S : State). S.commit) c.self.view_is);
          late_enough = omega (arith, v.least_time.ensures.time, leb-true _ _ (sym v.value-is ∙ w.if-least_time-entry.true));
          in_range = leb-true _ _ (sym w.value-is ∙ c.if-entry-le-LAST_MOMENT.true);
          lawful = ap is_none v.least_time.ensures.lawful;
          new = sym c.in-New.ensures;
        }))
        | else-entry-self v ↦ absurd (v.if-entry-self.false (eqb-true _ _ (sym v.value-is ∙ w.if-least_time-entry.true)))
      ]
      | else-least_time-entry w ↦ absurd (let both : false ≡ true = sym w.if-least_time-entry.false ∙ sym w.value-is ∙ c.if-entry-le-LAST_MOMENT.true in cc)
    ]

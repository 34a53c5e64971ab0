use Rattle.tb_ledger.proofs.Common.{◌≡◌, [], IfNone, subst, sym, ap, ◌∙◌, arith, chained, unwound, CanUnwind}
use Rattle.tb_ledger.proofs.Expiries.{none_of}
use Rattle.tb_ledger.proofs.UndoLogs.{popped, popped_can}
use Rattle.tb_ledger.proofs.tables.work.unwind.Goals as goal

pub undo_one-requires : goal.undo_one-requires
undo_one-requires g c = (popped_can c.pop.new.self.changes c.loop-undo.undo_log.changes c.in-Some.undo (chained c.loop-undo.rows) c.in-Some.ensures.changes c.loop-undo.invariant.can).0

pub loop-undo-preserved : goal.loop-undo-preserved
loop-undo-preserved g c =
    let v = c.loop-undo.invariant in
    let us = c.pop.new.self.changes in
    let more = c.loop-undo.undo_log.changes in
    let x = chained c.loop-undo.rows in
    let does = c.undo_one.ensures in
    record {
      undone = ap (unwound us) does.undone ∙ popped us more c.in-Some.undo x c.in-Some.ensures.changes ∙ v.undone;
      can = subst (CanUnwind us) (sym does.undone) (popped_can us more c.in-Some.undo x c.in-Some.ensures.changes v.can).1;
      accounts_capacity = omega (arith, v.accounts_capacity, does.accounts_capacity);
      transfers_capacity = omega (arith, v.transfers_capacity, does.transfers_capacity);
      failed = does.failed ∙ v.failed;
      keeps_failed = does.keeps_failed ∙ v.keeps_failed;
      time = does.time ∙ v.time;
      capacity = c.pop.ensures.capacity ∙ v.capacity;
    }

pub returns-clause-unwound : goal.returns-clause-unwound
returns-clause-unwound g c =
    let v = c.loop-undo.invariant in
    let changes = c.loop-undo.undo_log.changes in
    let gone : changes ≡ [] = subst (λ o. IfNone o (changes ≡ [])) (none_of c.pop.result c.in_default.not-Some) c.pop.ensures.none in
    record {
      undone = sym (ap (λ us. unwound us (chained c.loop-undo.rows)) gone) ∙ v.undone;
      accounts_capacity = v.accounts_capacity;
      transfers_capacity = v.transfers_capacity;
      failed = v.failed;
      keeps_failed = v.keeps_failed;
      time = v.time;
    }

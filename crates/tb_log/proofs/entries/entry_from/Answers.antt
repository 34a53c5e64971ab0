use Rattle.std.proofs.Common.{◌≡◌, ℕ, List, Option, None, Some, Result, Ok, Err, MatchOption, arith, subst}
use Rattle.std.proofs.lemmas.Result.{err_from_is_err_and}
use Rattle.tb_log.specs.declared.faults.LogFault.{LogFault}
use Rattle.tb_log.specs.Entries.{IsNoPairs}
use Rattle.tb_log.proofs.Taking.{entry_lost, entry_read, entry_bad, entry_wrong, head_lost, sound_of}
use Rattle.tb_log.proofs.entries.entry_from.Goals as goal

-- the fault that was judged
fault_of : (o : Option LogFault) (r : Result (Unit {0}) LogFault) (f : LogFault) → MatchOption o (r ≡ Ok tt) (λ (g : LogFault). r ≡ Err g) → r ≡ Err f → o ≡ Some f
fault_of None r f judged is = absurd cc
fault_of (Some g) r f judged is = cc

pub returns-in_err-head-clause-wrong : goal.returns-in_err-head-clause-wrong
returns-in_err-head-clause-wrong g c = grind (arith, head_lost)

pub returns-in_err-judge_head-clause-wrong : goal.returns-in_err-judge_head-clause-wrong
returns-in_err-judge_head-clause-wrong g c =
    let p = err_from_is_err_and c.from_residual-in_err-judge_head.result c.from_residual-in_err-judge_head.ensures.1 in
    rw (p.1, p.2) (entry_wrong c.in_ok-head.head c.in_err-judge_head.field-0.0 c.args.last _ _ c.in_ok-head.ensures
    (fault_of _ c.judge_head.result _ c.judge_head.ensures c.in_err-judge_head.was))

pub returns-in_err-content-clause-wrong : goal.returns-in_err-content-clause-wrong
returns-in_err-content-clause-wrong g c =
    let p = err_from_is_err_and c.from_residual-in_err-content.result c.from_residual-in_err-content.ensures.1 in
    rw (p.1, p.2) (entry_lost c.in_ok-head.head c.args.last _ _ _ c.in_ok-head.ensures
    (sound_of _ c.judge_head.result _ c.judge_head.ensures c.in_ok-judge_head.was) c.in_err-content.field-0.0 c.in_err-content.ensures.lost)

pub returns-in_err-check_pairs-clause-wrong : goal.returns-in_err-check_pairs-clause-wrong
returns-in_err-check_pairs-clause-wrong g c =
    let p = err_from_is_err_and c.from_residual-in_err-check_pairs.result c.from_residual-in_err-check_pairs.ensures.1 in
    rw (p.1, p.2) (entry_bad c.in_err-check_pairs.field-0.0 c.in_ok-head.head.position c.args.last c.in_ok-content.content.items _ _
    (entry_read c.in_ok-head.head c.args.last _ _ _ c.in_ok-head.ensures (sound_of _ c.judge_head.result _ c.judge_head.ensures c.in_ok-judge_head.was) c.in_ok-content.content.items c.in_ok-content.ensures.whole)
    (subst (λ (bs : List ℕ). IsNoPairs c.in_err-check_pairs.field-0.0 c.in_ok-head.head.position bs) c.deref.ensures.value c.in_err-check_pairs.ensures.bad))

pub returns-clause-place : goal.returns-clause-place
returns-clause-place g c =
    (entry_read c.in_ok-head.head c.args.last _ _ _ c.in_ok-head.ensures (sound_of _ c.judge_head.result _ c.judge_head.ensures c.in_ok-judge_head.was) c.in_ok-content.content.items c.in_ok-content.ensures.whole).0

pub returns-clause-read : goal.returns-clause-read
returns-clause-read g c =
    (entry_read c.in_ok-head.head c.args.last _ _ _ c.in_ok-head.ensures (sound_of _ c.judge_head.result _ c.judge_head.ensures c.in_ok-judge_head.was) c.in_ok-content.content.items c.in_ok-content.ensures.whole).1

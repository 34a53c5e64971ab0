use Rattle.std.proofs.Common.{arith}
use Rattle.std.proofs.lemmas.Result.{err_from_is_err_and}
use Rattle.tb_records.proofs.DumpAnswers.{lost_numbers, cut_numbers, two_numbers}
use Rattle.tb_records.proofs.dumps.numbers_from.Goals as goal

pub returns-in_err-n-clause-answer : goal.returns-in_err-n-clause-answer
returns-in_err-n-clause-answer g c =
    let p = err_from_is_err_and c.from_residual.result c.from_residual.ensures.1 in
    rw (p.1, p.2) (lost_numbers c.in_err-n.field-0.0 _ _ c.in_err-n.ensures.bytes.0 c.in_err-n.ensures.bytes.1)

pub returns-in_default-clause-answer : goal.returns-in_default-clause-answer
returns-in_default-clause-answer g c =
    cut_numbers c.fill.new.buf c.in_ok-n.n _ _ (λ e. absurd (omega arith)) c.if-n-lt16.true (omega arith) c.in_ok-n.ensures.bytes

pub returns-in_default-2-clause-answer : goal.returns-in_default-2-clause-answer
returns-in_default-2-clause-answer g c =
    two_numbers c.fill.new.buf c.in_ok-n.n c.u64_at.result c.u64_at-in_default-2.result _ _ (omega arith) (omega arith) c.in_ok-n.ensures.bytes c.u64_at.ensures.spelled c.u64_at-in_default-2.ensures.spelled
    c.u64_at.type_inv c.u64_at-in_default-2.type_inv

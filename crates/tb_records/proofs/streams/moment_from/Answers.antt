use Rattle.std.proofs.Common.{arith}
use Rattle.std.proofs.lemmas.Result.{err_from_is_err_and}
use Rattle.tb_records.proofs.StreamAnswers.{lost_moment, short_moment}
use Rattle.tb_records.proofs.streams.moment_from.Goals as goal

pub returns-in_err-n-clause-answer : goal.returns-in_err-n-clause-answer
returns-in_err-n-clause-answer g c =
    let p = err_from_is_err_and c.from_residual.result c.from_residual.ensures.1 in
    rw (p.1, p.2) (lost_moment c.in_err-n.field-0.0 _ _ c.in_err-n.ensures.bytes.0 c.in_err-n.ensures.bytes.1)

pub returns-in_default-clause-answer : goal.returns-in_default-clause-answer
returns-in_default-clause-answer g c =
    short_moment c.fill.new.buf c.in_ok-n.n _ _ (λ e. absurd (omega arith)) c.if-n-lt8.true (omega arith) c.in_ok-n.ensures.bytes

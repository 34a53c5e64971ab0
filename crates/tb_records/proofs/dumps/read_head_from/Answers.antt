use Rattle.std.proofs.Common.{refl, arith}
use Rattle.std.proofs.lemmas.Result.{err_from_is_err_and}
use Rattle.tb_records.proofs.DumpAnswers.{lost_head, cut_head, whole_head, other_head}
use Rattle.tb_records.proofs.dumps.read_head_from.Goals as goal

pub returns-in_err-fill-clause-answer : goal.returns-in_err-fill-clause-answer
returns-in_err-fill-clause-answer g c =
    let p = err_from_is_err_and c.from_residual.result c.from_residual.ensures.1 in
    rw (p.1, p.2) (lost_head c.in_err-fill.field-0.0 _ _ c.in_err-fill.ensures.bytes.0 c.in_err-fill.ensures.bytes.1)

pub returns-then-branch-lt16-clause-answer : goal.returns-then-branch-lt16-clause-answer
returns-then-branch-lt16-clause-answer g c = cut_head c.fill.new.buf c.in_ok-fill.field-0 _ _ c.if-branch-lt16.true (omega arith) c.in_ok-fill.ensures.bytes

pub returns-in-Some-clause-answer : goal.returns-in-Some-clause-answer
returns-in-Some-clause-answer g c =
    whole_head c.fill.new.buf c.in_ok-fill.field-0 c.in-Some.head _ _ (omega arith) (omega arith) c.in_ok-fill.ensures.bytes c.in-Some.ensures.some

pub returns-in-None-clause-answer : goal.returns-in-None-clause-answer
returns-in-None-clause-answer g c =
    other_head c.fill.new.buf c.in_ok-fill.field-0 _ _ (omega arith) (omega arith) c.in_ok-fill.ensures.bytes (c.in-None.ensures.none refl)

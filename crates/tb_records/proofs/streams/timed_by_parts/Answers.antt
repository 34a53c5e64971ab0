use Rattle.std.proofs.Common.{◌∙◌}
use Rattle.std.proofs.lemmas.Result.{err_from_is_err_and}
use Rattle.tb_records.proofs.StreamAnswers.{no_frame, bad_frame, whole_pair, counts_since}
use Rattle.tb_records.proofs.streams.timed_by_parts.Goals as goal

pub returns-in_err-moment-clause-answer : goal.returns-in_err-moment-clause-answer
returns-in_err-moment-clause-answer g c =
    let p = err_from_is_err_and c.from_residual.result c.from_residual.ensures.1 in
    rw (p.1, p.2) c.in_err-moment.ensures.answer

pub returns-in_err-request-clause-answer : goal.returns-in_err-request-clause-answer
returns-in_err-request-clause-answer g c =
    let p = err_from_is_err_and c.from_residual-in_err-request.result c.from_residual-in_err-request.ensures.1 in
    let read = rw c.in-Some.is at c.in_ok-moment.ensures.answer in
    rw (p.1, p.2) (bad_frame c.in_err-request.field-0.0 c.in-Some.moment _ _ _ read c.in_err-request.ensures.answer)

pub returns-in_err-request-clause-counted : goal.returns-in_err-request-clause-counted
returns-in_err-request-clause-counted g c =
    let p = err_from_is_err_and c.from_residual-in_err-request.result c.from_residual-in_err-request.ensures.1 in
    rw (p.1, p.2) (counts_since c.in_err-request.field-0.0 _ _ _ c.in_ok-moment.ensures.counted c.in_err-request.ensures.counted)

pub returns-in-Some-2-clause-answer : goal.returns-in-Some-2-clause-answer
returns-in-Some-2-clause-answer g c =
    let read = rw c.in-Some.is at c.in_ok-moment.ensures.answer in
    let rest = rw c.in-Some-2.is at c.in_ok-request.ensures.answer in
    whole_pair c.in-Some.moment c.in-Some-2.request _ _ _ read rest

pub returns-in-Some-2-clause-right : goal.returns-in-Some-2-clause-right
returns-in-Some-2-clause-right g c =
    let read = rw c.in-Some.is at c.in_ok-moment.ensures.answer in
    let right = rw c.in-Some-2.is at c.in_ok-request.ensures.right in
    (read.fits, right)

pub returns-in-Some-2-clause-counted : goal.returns-in-Some-2-clause-counted
returns-in-Some-2-clause-counted g c = c.in_ok-request.ensures.counted ∙ c.in_ok-moment.ensures.counted

pub returns-in-None-clause-answer : goal.returns-in-None-clause-answer
returns-in-None-clause-answer g c =
    let read = rw c.in-Some.is at c.in_ok-moment.ensures.answer in
    let rest = rw c.in-None.is at c.in_ok-request.ensures.answer in
    no_frame c.in-Some.moment _ _ _ read rest

use Rattle.std.proofs.Common.{◌∙◌}
use Rattle.std.proofs.lemmas.Result.{err_from_is_err_and}
use Rattle.tb_records.proofs.HeaderBytes.{is_header}
use Rattle.tb_records.proofs.StreamAnswers.{whole_request, faulty_body, counts_since}
use Rattle.tb_records.proofs.streams.request_from.Goals as goal

pub returns-in_err-header-clause-answer : goal.returns-in_err-header-clause-answer
returns-in_err-header-clause-answer g c =
    let p = err_from_is_err_and c.from_residual.result c.from_residual.ensures.1 in
    rw (p.1, p.2) c.in_err-header.ensures.answer

pub request_behind-requires : goal.request_behind-requires
request_behind-requires g c =
    let read = rw c.in-Some.is at c.in_ok-header.ensures.answer in
    is_header read.header _ read.fields read.spelled

pub returns-in_err-request_behind-clause-answer : goal.returns-in_err-request_behind-clause-answer
returns-in_err-request_behind-clause-answer g c =
    let p = err_from_is_err_and c.from_residual-in_err-request_behind.result c.from_residual-in_err-request_behind.ensures.1 in
    let read = rw c.in-Some.is at c.in_ok-header.ensures.answer in
    rw (p.1, p.2) (faulty_body c.in_err-request_behind.field-0.0 c.in-Some.header _ _ _ read c.in_err-request_behind.ensures.bytes)

pub returns-in_err-request_behind-clause-counted : goal.returns-in_err-request_behind-clause-counted
returns-in_err-request_behind-clause-counted g c =
    let p = err_from_is_err_and c.from_residual-in_err-request_behind.result c.from_residual-in_err-request_behind.ensures.1 in
    rw (p.1, p.2) (counts_since c.in_err-request_behind.field-0.0 _ _ _ c.in_ok-header.ensures.counted c.in_err-request_behind.ensures.counted)

pub returns-clause-answer : goal.returns-clause-answer
returns-clause-answer g c =
    let read = rw c.in-Some.is at c.in_ok-header.ensures.answer in
    whole_request c.in-Some.header c.in_ok-request_behind.field-0 _ _ _ read c.in_ok-request_behind.ensures.bytes

pub returns-clause-right : goal.returns-clause-right
returns-clause-right g c = c.in_ok-request_behind.ensures.bytes.is

pub returns-clause-counted : goal.returns-clause-counted
returns-clause-counted g c = c.in_ok-request_behind.ensures.counted ∙ c.in_ok-header.ensures.counted

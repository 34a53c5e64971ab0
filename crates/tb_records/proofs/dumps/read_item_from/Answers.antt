use Rattle.std.proofs.Common.{◌∙◌}
use Rattle.std.proofs.lemmas.Result.{err_from_is_err_and}
use Rattle.tb_records.proofs.DumpAnswers.{no_frame, bad_frame, read_mark, no_mark, whole_entry}
use Rattle.tb_records.proofs.StreamAnswers.{counts_since}
use Rattle.tb_records.proofs.dumps.read_item_from.Goals as goal

pub returns-in_err-commit-clause-answer : goal.returns-in_err-commit-clause-answer
returns-in_err-commit-clause-answer g c =
    let p = err_from_is_err_and c.from_residual.result c.from_residual.ensures.1 in
    rw (p.1, p.2) c.in_err-commit.ensures.answer

pub returns-in_err-commit-clause-counted : goal.returns-in_err-commit-clause-counted
returns-in_err-commit-clause-counted g c =
    let p = err_from_is_err_and c.from_residual.result c.from_residual.ensures.1 in
    rw (p.1, p.2) c.in_err-commit.ensures.counted

pub returns-then-time-eq2-clause-answer : goal.returns-then-time-eq2-clause-answer
returns-then-time-eq2-clause-answer g c =
    let read = rw c.in-Some.is at c.in_ok-commit.ensures.answer in
    read_mark c.in-Some.commit c.in-Some.time _ _ c.if-commit-eq0.true c.if-time-eq2.true read

pub returns-else-time-eq2-clause-answer : goal.returns-else-time-eq2-clause-answer
returns-else-time-eq2-clause-answer g c =
    let read = rw c.in-Some.is at c.in_ok-commit.ensures.answer in
    no_mark c.in-Some.commit c.in-Some.time _ _ c.if-commit-eq0.true c.if-time-eq2.false read

pub returns-in_err-request-clause-answer : goal.returns-in_err-request-clause-answer
returns-in_err-request-clause-answer g c =
    let p = err_from_is_err_and c.from_residual-in_err-request.result c.from_residual-in_err-request.ensures.1 in
    let read = rw c.in-Some.is at c.in_ok-commit.ensures.answer in
    rw (p.1, p.2) (bad_frame c.in_err-request.field-0.0 c.in-Some.commit c.in-Some.time _ _ _ c.if-commit-eq0.false read c.in_err-request.ensures.answer)

pub returns-in_err-request-clause-counted : goal.returns-in_err-request-clause-counted
returns-in_err-request-clause-counted g c =
    let p = err_from_is_err_and c.from_residual-in_err-request.result c.from_residual-in_err-request.ensures.1 in
    rw (p.1, p.2) (counts_since c.in_err-request.field-0.0 _ _ _ c.in_ok-commit.ensures.counted c.in_err-request.ensures.counted)

pub returns-in-Some-2-clause-answer : goal.returns-in-Some-2-clause-answer
returns-in-Some-2-clause-answer g c =
    let read = rw c.in-Some.is at c.in_ok-commit.ensures.answer in
    let rest = rw c.in-Some-2.is at c.in_ok-request.ensures.answer in
    whole_entry c.in-Some.commit c.in-Some.time c.in-Some-2.request _ _ _ c.if-commit-eq0.false read rest

pub returns-in-Some-2-clause-counted : goal.returns-in-Some-2-clause-counted
returns-in-Some-2-clause-counted g c = c.in_ok-request.ensures.counted ∙ c.in_ok-commit.ensures.counted

pub returns-in-None-clause-answer : goal.returns-in-None-clause-answer
returns-in-None-clause-answer g c =
    let read = rw c.in-Some.is at c.in_ok-commit.ensures.answer in
    let rest = rw c.in-None.is at c.in_ok-request.ensures.answer in
    no_frame c.in-Some.commit c.in-Some.time _ _ _ c.if-commit-eq0.false read rest

pub returns-in-None-clause-counted : goal.returns-in-None-clause-counted
returns-in-None-clause-counted g c = c.in_ok-request.ensures.counted ∙ c.in_ok-commit.ensures.counted

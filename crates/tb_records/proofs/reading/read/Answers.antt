use Rattle.std.proofs.Common.{[], Some, refl}
use Rattle.std.proofs.lemmas.Result.{err_from_is_err_and}
use Rattle.tb_records.proofs.FrameFaults.{cut_header}
use Rattle.tb_records.proofs.HeaderBytes.{is_header}
use Rattle.tb_records.proofs.SliceAnswers.{bad_slice, cut_slice, whole_slice, slice_request, part_long}
use Rattle.tb_records.proofs.reading.read.Goals as goal

pub returns-then-bytes-lt48 : goal.returns-then-bytes-lt48
returns-then-bytes-lt48 c = cut_header c.args.bytes.now c.if-bytes-lt48.true

pub returns-in_err-header : goal.returns-in_err-header
returns-in_err-header c =
    let p = err_from_is_err_and c.from_residual.result c.from_residual.ensures.1 in
    rw (p.1, p.2) (bad_slice c.in_err-header.field-0.0 c.args.bytes.now c.if-bytes-lt48.false c.in_err-header.ensures.fields)

pub returns-then-bytes-header : goal.returns-then-bytes-header
returns-then-bytes-header c = cut_slice c.args.bytes.now c.in_ok-header.header c.if-bytes-lt48.false c.in_ok-header.ensures.fields c.if-bytes-header.true

pub request_in-requires-clause-size : goal.request_in-requires-clause-size
request_in-requires-clause-size c = part_long c.args.bytes.now c.in_ok-header.header c.in_ok-header.ensures.fields c.if-bytes-header.false

pub request_in-requires-clause-header : goal.request_in-requires-clause-header
request_in-requires-clause-header c = is_header c.args.bytes.now c.in_ok-header.header c.in_ok-header.ensures.fields c.in_ok-header.ensures.spelled

pub returns-in_err-request : goal.returns-in_err-request
returns-in_err-request c =
    let p = err_from_is_err_and c.from_residual-in_err-request.result c.from_residual-in_err-request.ensures.1 in
    rw (p.1, p.2, c.in_err-request.ensures) (whole_slice c.args.bytes.now c.in_ok-header.header c.if-bytes-lt48.false c.in_ok-header.ensures.fields c.if-bytes-header.false)

pub returns : goal.returns
returns c =
    slice_request c.args.bytes.now _ c.in_ok-header.header c.in_ok-request.request (Some []) c.if-bytes-lt48.false c.in_ok-header.ensures.fields c.in_ok-header.ensures.spelled
    c.if-bytes-header.false refl c.in_ok-request.ensures

use Rattle.std.proofs.Common.{◌∙◌, arith}
use Rattle.std.proofs.lemmas.Result.{err_from_is_err_and}
use Rattle.tb_records.specs.ReplyFrames.{has_reply_length}
use Rattle.tb_records.proofs.ReplyFaults.{cut_reply_header, found_header_fault, cut_reply_body, whole_reply}
use Rattle.tb_records.proofs.ReplyHeaderBytes.{body_behind, header_length, header_right, found_reply}
use Rattle.tb_records.proofs.reply_reading.read.Goals as goal

pub returns-then-bytes-lt48 : goal.returns-then-bytes-lt48
returns-then-bytes-lt48 c = cut_reply_header c.args.bytes.now c.if-bytes-lt48.true

pub returns-in_err-header : goal.returns-in_err-header
returns-in_err-header c =
    let p = err_from_is_err_and c.from_residual.result c.from_residual.ensures.1 in
    rw (p.1, p.2) (found_header_fault c.args.bytes.now c.in_err-header.field-0.0 c.if-bytes-lt48.false c.in_err-header.ensures)

pub returns-then-bytes-end : goal.returns-then-bytes-end
returns-then-bytes-end c = cut_reply_body c.args.bytes.now c.if-bytes-lt48.false c.in_ok-header.ensures.none (omega (arith, c.in_ok-header.ensures.fields.len))

pub body_in-requires : goal.body_in-requires
body_in-requires c =
    let h = c.in_ok-header.header in
    let long = body_behind c.args.bytes.now h.len c.if-bytes-end.false in
    (λ i. has_reply_length h.numbers.operation (c.code-status.ensures i) (long i)) ∙ header_length c.args.bytes.now h c.in_ok-header.ensures

pub returns-in_err-body : goal.returns-in_err-body
returns-in_err-body c =
    let p = err_from_is_err_and c.from_residual-in_err-body.result c.from_residual-in_err-body.ensures.1 in
    rw (p.1, p.2) (whole_reply c.args.bytes.now c.if-bytes-lt48.false (omega (arith, c.in_ok-header.ensures.fields.len)) ∙ c.in_ok-header.ensures.none)

pub lawful-requires : goal.lawful-requires
lawful-requires c =
    let h = c.in_ok-header.header in
    let is = rw c.code-status.ensures at c.in_ok-body.ensures in
    header_right c.args.bytes.now h c.in_ok-body.body _ c.in_ok-header.ensures is (body_behind c.args.bytes.now h.len c.if-bytes-end.false)

pub returns : goal.returns
returns c =
    let is = rw c.code-status.ensures at c.in_ok-body.ensures in
    rw c.lawful.ensures (c.if-bytes-end.false, found_reply c.args.bytes.now c.in_ok-header.header c.in_ok-body.body (λ k. omega (arith, c.type_inv.bytes k)) c.in_ok-header.ensures c.if-bytes-end.false is)

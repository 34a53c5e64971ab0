use Rattle.std.proofs.Common.{◌∙◌}
use Rattle.std.proofs.lemmas.Result.{err_from_is_err_and}
use Rattle.tb_records.proofs.ReplyParts.{field_fault, number_fault, length_decides}
use Rattle.tb_records.proofs.reply_reading.header_in.Goals as goal

pub returns-in_err-header : goal.returns-in_err-header
returns-in_err-header c =
    let p = err_from_is_err_and c.from_residual.result c.from_residual.ensures.1 in
    rw (p.1, p.2) (field_fault c.args.bytes.now c.in_err-header.field-0.0 c.in_err-header.ensures)

pub returns-in_err-check : goal.returns-in_err-check
returns-in_err-check c =
    let p = err_from_is_err_and c.from_residual-in_err-check.result c.from_residual-in_err-check.ensures.1 in
    rw (p.1, p.2) (number_fault c.args.bytes.now c.in_ok-header.header c.in_err-check.field-0.0 c.in_ok-header.ensures c.in_err-check.ensures)

pub returns-in_err-check_length : goal.returns-in_err-check_length
returns-in_err-check_length c =
    let p = err_from_is_err_and c.from_residual-in_err-check_length.result c.from_residual-in_err-check_length.ensures.1 in
    rw (p.1, p.2) (length_decides c.args.bytes.now c.in_ok-header.header _ c.in_ok-header.ensures c.code.ensures c.in_ok-check.ensures ∙ c.in_err-check_length.ensures)

pub returns : goal.returns
returns c = record {
  none = length_decides c.args.bytes.now c.in_ok-header.header _ c.in_ok-header.ensures c.code.ensures c.in_ok-check.ensures ∙ c.in_ok-check_length.ensures;
  fields = c.in_ok-header.ensures;
}

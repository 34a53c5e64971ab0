use Rattle.std.proofs.Common.{arith}
use Rattle.std.proofs.lemmas.Result.{err_from_is_err_and}
use Rattle.tb_records.proofs.FrameFaults.{is_of_header}
use Rattle.tb_records.proofs.StreamAnswers.{lost_header, short_header, faulty_header, header_counts, whole_buffer}
use Rattle.tb_records.proofs.streams.header_from.Goals as goal

pub returns-in_err-n-clause-answer : goal.returns-in_err-n-clause-answer
returns-in_err-n-clause-answer g c =
    let p = err_from_is_err_and c.from_residual.result c.from_residual.ensures.1 in
    rw (p.1, p.2) (lost_header c.in_err-n.field-0.0 _ _ c.in_err-n.ensures.bytes.0 c.in_err-n.ensures.bytes.1)

pub returns-in_default-clause-answer : goal.returns-in_default-clause-answer
returns-in_default-clause-answer g c =
    short_header c.fill.new.buf c.in_ok-n.n _ _ (λ e. absurd (omega arith)) c.if-n-lt48.true (omega arith) c.in_ok-n.ensures.bytes

pub returns-in_err-request_header-clause-answer : goal.returns-in_err-request_header-clause-answer
returns-in_err-request_header-clause-answer g c =
    let p = err_from_is_err_and c.from_residual-in_err-request_header.result c.from_residual-in_err-request_header.ensures.1 in
    rw (p.1, p.2) (faulty_header c.in_err-request_header.field-0.0 c.fill.new.buf _ _ (omega arith)
    (whole_buffer c.fill.new.buf c.in_ok-n.n _ _ (omega arith) (omega arith) c.in_ok-n.ensures.bytes) c.in_err-request_header.ensures.fields)

pub returns-in_err-request_header-clause-counted : goal.returns-in_err-request_header-clause-counted
returns-in_err-request_header-clause-counted g c =
    let p = err_from_is_err_and c.from_residual-in_err-request_header.result c.from_residual-in_err-request_header.ensures.1 in
    let fault = c.in_err-request_header.field-0.0 in
    rw (p.1, p.2) (header_counts fault _ _ (is_of_header c.fill.new.buf fault c.in_err-request_header.ensures.fields) c.in_ok-n.ensures.counted)

pub returns-clause-answer : goal.returns-clause-answer
returns-clause-answer g c = record {
  header = c.fill.new.buf;
  long = omega arith;
  fields = c.in_ok-request_header.ensures.fields;
  spelled = c.in_ok-request_header.ensures.spelled;
  bytes = whole_buffer c.fill.new.buf c.in_ok-n.n _ _ (omega arith) (omega arith) c.in_ok-n.ensures.bytes;
}

use Rattle.std.proofs.lemmas.Result.{err_from_is_err_and}
use Rattle.tb_records.specs.Frames.{body_bytes}
use Rattle.tb_records.proofs.Sendings.{sent_rest, sent_few, request_frame, request_fits}
use Rattle.tb_records.proofs.writing.send_request.Goals as goal

pub returns-in_err-put_all-clause-sent : goal.returns-in_err-put_all-clause-sent
returns-in_err-put_all-clause-sent g c =
    let frame = request_frame c.args.request.now c.request_header.result c.body_len-len.result c.body-body.result.now c.request_header.ensures.header c.body_len-len.ensures c.body-body.ensures.value in
    let p = err_from_is_err_and c.from_residual.result c.from_residual.ensures.1 in
    rw (p.1, p.2) (c.in_err-put_all.ensures.0, sent_few _ _ _ _ _ frame c.in_err-put_all.ensures.1)

pub returns-clause-sent : goal.returns-clause-sent
returns-clause-sent g c =
    let frame = request_frame c.args.request.now c.request_header.result c.body_len-len.result c.body-body.result.now c.request_header.ensures.header c.body_len-len.ensures c.body-body.ensures.value in
    sent_rest c.request_header.result (body_bytes c.body-body.result.now) (g.W.Sink.output c.args.sink.now) (g.W.Sink.output c.put_all.new.sink) (g.W.Sink.output c.send_request_body.new.sink)
    _ frame c.in_ok-put_all.ensures c.send_request_body.result c.send_request_body.ensures.sent

pub returns-clause-fits : goal.returns-clause-fits
returns-clause-fits g c =
    request_fits c.args.request.now c.body-body.result.now c.send_request_body.result c.body-body.ensures.value c.request_header.ensures.fits c.body-body.ensures.lawful c.send_request_body.ensures.fits

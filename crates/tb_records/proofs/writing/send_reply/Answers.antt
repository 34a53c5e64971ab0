use Rattle.std.proofs.lemmas.Result.{err_from_is_err_and}
use Rattle.tb_records.specs.ReplyFrames.{reply_body_bytes}
use Rattle.tb_records.proofs.Sendings.{sent_rest, sent_few, reply_frame, reply_fits}
use Rattle.tb_records.proofs.writing.send_reply.Goals as goal

pub returns-in_err-put_all-clause-sent : goal.returns-in_err-put_all-clause-sent
returns-in_err-put_all-clause-sent g c =
    let frame = reply_frame c.args.reply.now c.reply_header.result c.reply_body_len-len.result c.body-body.result.now c.reply_header.ensures.header c.reply_body_len-len.ensures c.body-body.ensures.value in
    let p = err_from_is_err_and c.from_residual.result c.from_residual.ensures.1 in
    rw (p.1, p.2) (c.in_err-put_all.ensures.0, sent_few _ _ _ _ _ frame c.in_err-put_all.ensures.1)

pub returns-clause-sent : goal.returns-clause-sent
returns-clause-sent g c =
    let frame = reply_frame c.args.reply.now c.reply_header.result c.reply_body_len-len.result c.body-body.result.now c.reply_header.ensures.header c.reply_body_len-len.ensures c.body-body.ensures.value in
    sent_rest c.reply_header.result (reply_body_bytes c.body-body.result.now) (g.W.Sink.output c.args.sink.now) (g.W.Sink.output c.put_all.new.sink) (g.W.Sink.output c.send_body.new.sink)
    _ frame c.in_ok-put_all.ensures c.send_body.result c.send_body.ensures.sent

pub returns-clause-fits : goal.returns-clause-fits
returns-clause-fits g c =
    reply_fits c.args.reply.now c.body-body.result.now c.send_body.result c.body-body.ensures.value c.reply_header.ensures.fits c.body-body.ensures.right c.send_body.ensures.fits

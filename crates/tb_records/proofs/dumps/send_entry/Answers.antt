use Rattle.std.proofs.Common.{◌++◌, ap}
use Rattle.std.proofs.lemmas.Result.{err_from_is_err_and}
use Rattle.tb_records.specs.Frames.{request_bytes}
use Rattle.tb_records.proofs.DumpAnswers.{entry_fits}
use Rattle.tb_records.proofs.Sendings.{sent_rest, sent_few}
use Rattle.tb_records.proofs.dumps.send_entry.Goals as goal

pub returns-in_err-put_all-clause-sent : goal.returns-in_err-put_all-clause-sent
returns-in_err-put_all-clause-sent g c =
    let frame = ap (λ l. l ++ request_bytes c.args.request.now) c.bytes_of_numbers.ensures in
    let p = err_from_is_err_and c.from_residual.result c.from_residual.ensures.1 in
    rw (p.1, p.2) (c.in_err-put_all.ensures.0, sent_few _ _ _ _ _ frame c.in_err-put_all.ensures.1)

pub returns-clause-sent : goal.returns-clause-sent
returns-clause-sent g c =
    let frame = ap (λ l. l ++ request_bytes c.args.request.now) c.bytes_of_numbers.ensures in
    sent_rest c.bytes_of_numbers.result (request_bytes c.args.request.now) (g.W.Sink.output c.args.sink.now) (g.W.Sink.output c.put_all.new.sink) (g.W.Sink.output c.send_request.new.sink)
    _ frame c.in_ok-put_all.ensures c.send_request.result c.send_request.ensures.sent

pub returns-clause-fits : goal.returns-clause-fits
returns-clause-fits g c = entry_fits c.args.commit c.args.time c.args.request.now c.send_request.result c.ranges.commit.fits c.ranges.time.fits c.send_request.ensures.fits

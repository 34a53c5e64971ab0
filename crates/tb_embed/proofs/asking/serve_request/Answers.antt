use Rattle.std.proofs.Common.{◌∙◌}
use Rattle.tb_machine.specs.Scripts.{Pair}
use Rattle.tb_machine.specs.Runs.{answer_bytes}
use Rattle.tb_embed.proofs.Filled.{filled_whole}
use Rattle.tb_embed.proofs.Lengths.{HasFields, fields_of, answered_length, answered_fits}
use Rattle.tb_embed.proofs.asking.serve_request.Goals as goal

pub returns-then-length-reply : goal.returns-then-length-reply
returns-then-length-reply c =
    let p : Pair = (c.args.moment, c.args.request) in
    let filled = rw c.in-Err-Frame.field-0-is at c.in-Err-Frame.ensures in
    let long = c.reply_length-length.ensures.length ∙ answered_length c.args.machine.now p c.body-lawful.ensures.lawful filled.0 c.fill.new.machine c.class-class.result c.client-client.result c.class-class.ensures c.client-client.ensures filled.1 in
    let fields : HasFields p.1 = fields_of p.1 c.client-client.result c.session-session.result c.request-number.result c.client-client.ensures c.session-session.ensures c.request-number.ensures c.client-client.type_inv c.session-session.type_inv c.request-number.type_inv in
    let fits = answered_fits c.args.machine.now p c.body-lawful.ensures.lawful filled.0 fields c.fill.new.machine c.class-class.result c.client-client.result c.class-class.ensures c.client-client.ensures filled.1 c.reply_length-length.ensures.fits in
    (filled.0, filled.1, c.if-length-reply.true, record { bytes_are = filled_whole (answer_bytes c.args.machine.now p) c.fill.new.reply filled.2.0 c.reply_length-length.result filled.2.1 long c.if-length-reply.true; is = fits })

pub returns-else-length-reply : goal.returns-else-length-reply
returns-else-length-reply c =
    let p : Pair = (c.args.moment, c.args.request) in
    let filled = rw c.in-Err-Frame.field-0-is at c.in-Err-Frame.ensures in
    let long = c.reply_length-length.ensures.length ∙ answered_length c.args.machine.now p c.body-lawful.ensures.lawful filled.0 c.fill.new.machine c.class-class.result c.client-client.result c.class-class.ensures c.client-client.ensures filled.1 in
    let fields : HasFields p.1 = fields_of p.1 c.client-client.result c.session-session.result c.request-number.result c.client-client.ensures c.session-session.ensures c.request-number.ensures c.client-client.type_inv c.session-session.type_inv c.request-number.type_inv in
    (filled.0, filled.1, c.if-length-reply.false, long, answered_fits c.args.machine.now p c.body-lawful.ensures.lawful filled.0 fields c.fill.new.machine c.class-class.result c.client-client.result c.class-class.ensures c.client-client.ensures filled.1 c.reply_length-length.ensures.fits)

use Rattle.std.proofs.Common.{is_some, ap, subst}
use Rattle.std.proofs.lemmas.Result.{err_from_is_err_and}
use Rattle.tb_records.specs.Messages.{Answer}
use Rattle.tb_records.specs.ReplyFrames.{reply_bytes, IsReply}
use Rattle.tb_records.specs.Transport.{Sent, CutOff}
use Rattle.tb_machine.proofs.DumpReading.{entry_stored, entry_reply}
use Rattle.tb_machine.proofs.replaying.replay_entry.Goals as goal

pub stored_reply-requires : goal.stored_reply-requires
stored_reply-requires g c = ap is_some (entry_stored c.args.machine.now c.enter_next.new.machine c.args.entry c.client-client.result c.in_ok-enter_next.ensures.1 c.client-client.ensures)

pub returns : goal.returns
returns g c =
    let is = entry_reply c.args.machine.now c.enter_next.new.machine c.args.entry c.client-client.result c.stored_reply.result.now c.in_ok-enter_next.ensures.1 c.client-client.ensures c.stored_reply.ensures in
    (c.in_ok-enter_next.ensures.0, c.in_ok-enter_next.ensures.1, subst (λ (a : Answer). Sent (reply_bytes a) (g.W.Sink.output c.args.writer.now) (g.W.Sink.output c.send_reply.new.sink)) is c.in_ok-send_reply.ensures.sent, subst IsReply is c.in_ok-send_reply.ensures.fits)

pub returns-in_err-send_reply : goal.returns-in_err-send_reply
returns-in_err-send_reply g c =
    let is = entry_reply c.args.machine.now c.enter_next.new.machine c.args.entry c.client-client.result c.stored_reply.result.now c.in_ok-enter_next.ensures.1 c.client-client.ensures c.stored_reply.ensures in
    let p = err_from_is_err_and c.from_residual-in_err-send_reply.result c.from_residual-in_err-send_reply.ensures.1 in
    rw (p.1, p.2) (c.in_ok-enter_next.ensures.0, c.in_err-send_reply.ensures.sent.0, subst (λ (a : Answer). CutOff (reply_bytes a) (g.W.Sink.output c.args.writer.now) (g.W.Sink.output c.send_reply.new.sink)) is c.in_err-send_reply.ensures.sent.1)

use Rattle.std.proofs.Common.{OnOk, sym, ap, ◌∙◌, subst}
use Rattle.tb_records.specs.declared.replies.Status.{Status}
use Rattle.tb_records.specs.Messages.{Answer}
use Rattle.tb_records.specs.ReplyFrames.{reply_bytes, IsReply}
use Rattle.tb_records.specs.Transport.{IsSent}
use Rattle.tb_machine.specs.Histories.{refusal}
use Rattle.tb_machine.proofs.PairAnswers.{refused}
use Rattle.tb_machine.proofs.serving.answer_known.Goals as goal

pub returns-in_default-clause-sent : goal.returns-in_default-clause-sent
returns-in_default-clause-sent g c =
    subst (λ (a : Answer). IsSent c.send_reply-in_default-2.result (reply_bytes a)
    (g.W.Sink.output c.args.writer.now)
    (g.W.Sink.output c.send_reply-in_default-2.new.sink))
    (sym (refused c.args.machine.now c.args.request.now c.args.class c.refusal.result c.requires c.in_default.not-Repeat
    (c.refusal.ensures ∙ ap (λ (status : Status). refusal status c.args.request.now) c.status_of.ensures)))
    c.send_reply-in_default-2.ensures.sent

pub returns-in_default-clause-fits : goal.returns-in_default-clause-fits
returns-in_default-clause-fits g c =
    subst (λ (a : Answer). OnOk c.send_reply-in_default-2.result (IsReply a))
    (sym (refused c.args.machine.now c.args.request.now c.args.class c.refusal.result c.requires c.in_default.not-Repeat
    (c.refusal.ensures ∙ ap (λ (status : Status). refusal status c.args.request.now) c.status_of.ensures)))
    c.send_reply-in_default-2.ensures.fits

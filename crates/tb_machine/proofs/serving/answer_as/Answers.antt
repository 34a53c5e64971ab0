use Rattle.std.proofs.Common.{Ok, Err, ap, ◌∙◌, subst}
use Rattle.tb_records.specs.ReplyFrames.{reply_bytes, IsReply}
use Rattle.tb_records.specs.Transport.{Sent, CutOff}
use Rattle.tb_machine.specs.declared.entries.Entry.{Entry}
use Rattle.tb_machine.specs.declared.serving.RunFault.TheVariants as fault
use Rattle.tb_machine.specs.Histories.{step, reply_at}
use Rattle.tb_machine.proofs.PairAnswers.{entered_answer}
use Rattle.tb_machine.proofs.serving.answer_as.Goals as goal

pub returns-in-Ok-Whole : goal.returns-in-Ok-Whole
returns-in-Ok-Whole g c =
    let S = c.args.machine.now in
    let new = c.in-New.ensures.judged in
    let before = g.W.Sink.output c.args.writer.now in
    let after = g.W.Sink.output c.enter_and_reply.new.writer in
    let delivery = c.in-Ok-Whole.ensures in
    let sent = subst (λ (e : Entry). Sent (reply_bytes (reply_at S e)) before after) new.2 (rw c.in-Ok-Whole.field-0-is at delivery.1) in
    let fits = subst (λ (e : Entry). IsReply (reply_at S e)) new.2 (rw c.in-Ok-Whole.field-0-is at delivery.2) in
    entered_answer (Ok tt) S c.enter_and_reply.new.self (c.args.moment, c.args.request) before after c.in-New.ensures.lawful new.0 new.1 (delivery.0 ∙ ap (step S) new.2) sent fits

pub returns-in-Ok-Cut : goal.returns-in-Ok-Cut
returns-in-Ok-Cut g c =
    let S = c.args.machine.now in
    let new = c.in-New.ensures.judged in
    let before = g.W.Sink.output c.args.writer.now in
    let after = g.W.Sink.output c.enter_and_reply.new.writer in
    let delivery = c.in-Ok-Cut.ensures in
    let cut = rw c.in-Ok-Cut.field-0-is at delivery.1 in
    let sent = subst (λ (e : Entry). CutOff (reply_bytes (reply_at S e)) before after) new.2 cut.1 in
    entered_answer (Err (fault.Frame c.in-Ok-Cut.fault)) S c.enter_and_reply.new.self (c.args.moment, c.args.request) before after c.in-New.ensures.lawful new.0 new.1 (delivery.0 ∙ ap (step S) new.2) (ap fault.Frame cut.0, sent) tt

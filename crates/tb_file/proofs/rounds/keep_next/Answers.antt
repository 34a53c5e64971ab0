use Rattle.std.proofs.Common.{sym, ◌∙◌}
use Rattle.tb_machine.specs.Scripts.{Pair}
use Rattle.tb_machine.proofs.Running.{reads_one}
use Rattle.tb_file.proofs.Stopping.{ends_refused, ends_untimely}
use Rattle.tb_file.proofs.rounds.keep_next.Goals as goal

pub returns-then-is_end_of_time-clause-keeps : goal.returns-then-is_end_of_time-clause-keeps
returns-then-is_end_of_time-clause-keeps g c =
    let pair : Pair = (c.in-Ok-Some.moment, c.in-Ok-Some.request) in
    let first = g.R.Source.input c.args.reader.now in
    let last = g.R.Source.input c.read_timed_from.new.source in
    ends_untimely g.D.Device.tells g.D.Device.disk c.in-Err-keep_pair.fault c.reply_and_stop.result pair c.args.keeper.now c.keep_pair.new.keeper c.reply_and_stop.new.keeper first last
    c.args.replies.now.bytes.items c.keep_pair.new.replies.bytes.items c.reply_and_stop.new.replies.bytes.items (g.W.Sink.output c.args.writer.now) (g.W.Sink.output c.reply_and_stop.new.writer)
    (reads_one pair first last (rw c.in-Ok-Some.field-0-is at c.in-Ok-Some.ensures.answer) c.in-Ok-Some.ensures.counted)
    c.in-Err-keep_pair.ensures.keeps
    (sym c.is_end_of_time.ensures ∙ c.if-is_end_of_time.true)
    c.reply_and_stop.ensures.ends

pub returns-else-is_end_of_time-clause-keeps : goal.returns-else-is_end_of_time-clause-keeps
returns-else-is_end_of_time-clause-keeps g c =
    let pair : Pair = (c.in-Ok-Some.moment, c.in-Ok-Some.request) in
    let first = g.R.Source.input c.args.reader.now in
    let last = g.R.Source.input c.read_timed_from.new.source in
    ends_refused g.D.Device.tells g.D.Device.disk c.in-Err-keep_pair.fault pair c.args.keeper.now c.keep_pair.new.keeper first last
    c.args.replies.now.bytes.items c.keep_pair.new.replies.bytes.items (g.W.Sink.output c.args.writer.now)
    (reads_one pair first last (rw c.in-Ok-Some.field-0-is at c.in-Ok-Some.ensures.answer) c.in-Ok-Some.ensures.counted)
    c.in-Err-keep_pair.ensures.keeps
    (sym c.is_end_of_time.ensures ∙ c.if-is_end_of_time.false)

use Rattle.std.proofs.Common.{[]}
use Rattle.tb_file.proofs.Dumping.{dumps_behind}
use Rattle.tb_file.proofs.dumps.dump_by.Goals as goal

pub returns-in-Ok-clause-dumps : goal.returns-in-Ok-clause-dumps
returns-in-Ok-clause-dumps g c file holds has =
    dumps_behind c.args.rules file (g.W.Sink.output c.args.writer.now) (g.W.Sink.output c.send_head.new.sink) (g.W.Sink.output c.send_records.new.writer)
    c.send_records.result c.send_records.new.scan c.in-Ok.ensures.sent (c.send_records.ensures.sends file [] holds has)

pub returns-in-Ok-clause-cause : goal.returns-in-Ok-clause-cause
returns-in-Ok-clause-cause g c t = c.send_records.ensures.cause t

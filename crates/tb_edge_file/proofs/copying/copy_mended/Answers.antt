use Rattle.std.proofs.Common.{Ok, Err, refl}
use Rattle.tb_edge_file.proofs.copying.copy_mended.Goals as goal

pub returns-in-Ok : goal.returns-in-Ok
returns-in-Ok g c = record {
  looked = c.look_behind.new.self;
  looks = c.look_behind.ensures.whole;
  all = c.look_behind.ensures.all;
  mended = c.new-from.result;
  same = c.new-from.ensures;
  rules = Ok c.in-Ok._rules;
  between = c.read_rules-read.new.device;
  head = record { rules_are = c.in-Ok.ensures.rules; same = c.in-Ok.ensures.same; untouched = c.in-Ok.ensures.untouched; cause = c.in-Ok.ensures.cause };
  copied = c.copy_made-copied.result;
  after = c.copy_made-copied.new.from;
  middle = _;
  copies = (c.copy_made-copied.ensures, c.note_mended.ensures);
}

pub returns-in-Err : goal.returns-in-Err
returns-in-Err g c = record {
  looked = c.look_behind.new.self;
  looks = c.look_behind.ensures.whole;
  all = c.look_behind.ensures.all;
  mended = c.new-from.result;
  same = c.new-from.ensures;
  rules = Err c.in-Err._other;
  between = c.read_rules-read.new.device;
  head = record { rules_are = c.in-Err.ensures.rules; same = c.in-Err.ensures.same; untouched = c.in-Err.ensures.untouched; cause = c.in-Err.ensures.cause };
  copied = Err c.args.refused;
  after = c.read_rules-read.new.device;
  middle = g.W.Sink.output c.args.writer.now;
  copies = (refl, refl, refl);
}

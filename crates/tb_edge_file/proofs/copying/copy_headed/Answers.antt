use Rattle.std.proofs.Common.{Ok, Err, refl}
use Rattle.tb_edge_file.proofs.copying.copy_headed.Goals as goal

pub returns-in-Ok : goal.returns-in-Ok
returns-in-Ok g c = record {
  rules = Ok c.in-Ok._rules;
  between = c.read_rules-read.new.device;
  head = record { rules_are = c.in-Ok.ensures.rules; same = c.in-Ok.ensures.same; untouched = c.in-Ok.ensures.untouched; cause = c.in-Ok.ensures.cause };
  copies = (c.copy_made-copied.new.from, c.copy_made-copied.ensures);
}

pub returns-then-is_mended : goal.returns-then-is_mended
returns-then-is_mended g c = record {
  rules = Err c.in-Err.fault;
  between = c.read_rules-read.new.device;
  head = record { rules_are = c.in-Err.ensures.rules; same = c.in-Err.ensures.same; untouched = c.in-Err.ensures.untouched; cause = c.in-Err.ensures.cause };
  copies = record {
    refused = c.named-refused.result;
    after = c.named-refused.new.device;
    names = c.named-refused.ensures;
    copies = rw (← c.is_mended.ensures, c.if-is_mended.true) c.copy_mended.ensures;
  };
}

pub returns-else-is_mended : goal.returns-else-is_mended
returns-else-is_mended g c = record {
  rules = Err c.in-Err.fault;
  between = c.read_rules-read.new.device;
  head = record { rules_are = c.in-Err.ensures.rules; same = c.in-Err.ensures.same; untouched = c.in-Err.ensures.untouched; cause = c.in-Err.ensures.cause };
  copies = record {
    refused = c.named-refused.result;
    after = c.named-refused.new.device;
    names = c.named-refused.ensures;
    copies = rw (← c.is_mended.ensures, c.if-is_mended.false) (refl, refl, refl);
  };
}

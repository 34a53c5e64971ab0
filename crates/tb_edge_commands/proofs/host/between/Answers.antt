use Rattle.std.proofs.Common.{rules, inl, inr, refl}
use Rattle.tb_edge_commands.proofs.host.between.Goals as goal

pub returns-then-is_err : goal.returns-then-is_err
returns-then-is_err g c = record {
  done = c.command-outcome.result;
  end = c.command-outcome.new.reader;
  final = c.command-outcome.new.writer;
  does = rw (c.new-reader.ensures, c.new-writer.ensures) at c.command-outcome.ensures.does;
  untouched = rw (c.new-reader.ensures, c.new-writer.ensures) at c.command-outcome.ensures.untouched;
  last = c.flush.new.self;
  kept = rw c.into_inner-output.ensures at c.flush.ensures.bytes;
  ends = inr refl;
}

pub returns : goal.returns
returns g c = record {
  done = c.command-outcome.result;
  end = c.command-outcome.new.reader;
  final = c.command-outcome.new.writer;
  does = rw (c.new-reader.ensures, c.new-writer.ensures) at c.command-outcome.ensures.does;
  untouched = rw (c.new-reader.ensures, c.new-writer.ensures) at c.command-outcome.ensures.untouched;
  last = c.flush.new.self;
  kept = rw c.into_inner-output.ensures at c.flush.ensures.bytes;
  ends = inl (refl, search rules);
}

use Rattle.std.proofs.Common.{inl}
use Rattle.std.specs.Io.Buffered.{reader_remaining}
use Rattle.tb_oracle.proofs.answering.answer_input.Goals as goal

pub returns-in-Ok : goal.returns-in-Ok
returns-in-Ok g c = inl (record {
  reader = c.in-Ok.reader;
  of_input = c.in-Ok.ensures.inner;
  read_ahead = c.in-Ok.ensures.empty;
  holds = c.in-Ok.ensures.capacity;
  after = reader_remaining g.R.Read.remaining c.answer_all.new.reader;
  answers = c.answer_all.ensures;
})

use Rattle.tb_oracle.specs.Streams.{Exchange, HasExchanged}
use Rattle.std.specs.Prelude.{List, length, ◌≡◌}
use Rattle.tb_oracle.proofs.answering.answer_all.Given as goal

abbrev pub invariant-loop : goal.invariant-loop
invariant-loop g l = record {
  so_far : (xs : List Exchange) × HasExchanged xs (g.R.Read.remaining l.initial.reader) (g.R.Read.remaining l.reader) (g.W.Write.contents l.initial.writer) (g.W.Write.contents l.writer);
  head : length l.head ≡ 38;
}

use Rattle.std.proofs.Common.{◌≡◌}
use Rattle.tb_file.proofs.ServedRounds.{Going}
use Rattle.tb_file.proofs.rounds.keep_all.Given as goal

abbrev pub invariant-loop-k : goal.invariant-loop-k
invariant-loop-k g l = record {
  going : Going g.D.Device.tells g.D.Device.disk l.k l.initial.keeper l.keeper
      (g.R.Source.input l.initial.reader) (g.R.Source.input l.reader)
      (g.W.Sink.output l.initial.writer) (g.W.Sink.output l.writer)
      l.replies.bytes.items;
  cut : l.keeper.cut ≡ l.initial.keeper.cut;
}

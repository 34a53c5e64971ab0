use Rattle.std.proofs.Common.{Err, sym, subst, false}
use Rattle.tb_file.specs.Keeping.{Keeping}
use Rattle.tb_file.specs.Rounds.{Served}
use Rattle.tb_file.proofs.ServedRounds.{served_left}
use Rattle.tb_file.proofs.rounds.keep.Goals as goal

pub returns-in-Err-clause-served : goal.returns-in-Err-clause-served
returns-in-Err-clause-served g c =
    let first = g.R.Source.input c.args.reader.now in
    let last = g.R.Source.input c.keep_all.new.reader in
    let start = g.W.Sink.output c.args.writer.now in
    let written = g.W.Sink.output c.keep_all.new.writer in
    served_left g.D.Device.tells g.D.Device.disk _ false c.in-Err.fault c.args.keeper.now _ first last start written
    (subst (λ (k : Keeping g.row.D.Denot). Served g.D.Device.tells g.D.Device.disk (Err c.in-Err.fault) c.args.keeper.now k first last start written) (sym c.keeper.view_is) c.in-Err.ensures.served)

use Rattle.std.proofs.Common.{◌==◌}
use Rattle.std.specs.Io.Buffered.{reader_buffer, reader_capacity}
use Rattle.tb_records.proofs.PairAtHand.{skipped}
use Rattle.tb_records.proofs.devices.skip_buffered.Goals as goal

pub returns-clause-bytes : goal.returns-clause-bytes
returns-clause-bytes g c =
    let reader = c.args.reader.now in
    skipped c.args.n (reader_buffer reader) (reader_capacity reader == 0) (g.R.Read.remaining reader.inner) _ c.requires c.consume.ensures.bytes

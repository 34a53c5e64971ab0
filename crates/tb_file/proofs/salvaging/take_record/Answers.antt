use Rattle.tb_file.proofs.Taking.{record_short}
use Rattle.tb_file.proofs.salvaging.take_record.Goals as goal

pub append_batched-requires-clause-short : goal.append_batched-requires-clause-short
append_batched-requires-clause-short g c = record_short c.args.bytes.now c.in-Ok.ensures.0 c.in-Ok.ensures.1

use Rattle.std.proofs.Common.{refl}
use Rattle.tb_records.proofs.Sendings.{sent_rest, sent_few}
use Rattle.tb_edge_file.proofs.lines.put_lost.Goals as goal

pub returns-in-Ok : goal.returns-in-Ok
returns-in-Ok g c = sent_rest _ _ _ _ _ _ refl c.in-Ok.ensures _ c.put_torn.ensures

pub returns-in-Err : goal.returns-in-Err
returns-in-Err g c = (c.in-Err.ensures.0, sent_few _ _ _ _ _ refl c.in-Err.ensures.1)

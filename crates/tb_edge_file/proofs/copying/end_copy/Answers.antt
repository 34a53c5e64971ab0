use Rattle.tb_edge_file.proofs.CopiedFiles.{finished, refused}
use Rattle.tb_edge_file.proofs.copying.end_copy.Goals as goal

pub returns-in-Some : goal.returns-in-Some
returns-in-Some g c = refused g.D.Device _ c.in-Some.fault _ _ c.named.result c.args.from.now c.named.new.device c.in-Some.ensures c.named.ensures

pub returns-in-None : goal.returns-in-None
returns-in-None g c = finished g.D.Device _ _ _ _ _ c.args.from.now c.in-None.ensures c.copied_of-copied.ensures c.into_device-device.ensures

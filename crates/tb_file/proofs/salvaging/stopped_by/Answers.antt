use Rattle.std.proofs.Common.{sym, subst}
use Rattle.tb_file.specs.private.Taking.{StopsBy}
use Rattle.tb_file.proofs.TakenRecords.{stops_torn}
use Rattle.tb_file.proofs.salvaging.stopped_by.Goals as goal

pub returns-in-Ok-clause-stops : goal.returns-in-Ok-clause-stops
returns-in-Ok-clause-stops g c =
    subst (λ taken. StopsBy c.torn_stop.result taken (g.D.Device.holds c.args.from.now) c.args.extent) (sym c.in-Ok.is)
    (stops_torn c.in-Ok.field-0 c.torn_stop.result (g.D.Device.holds c.args.from.now) c.args.extent c.torn_stop.ensures.torn c.torn_stop.ensures.fault)

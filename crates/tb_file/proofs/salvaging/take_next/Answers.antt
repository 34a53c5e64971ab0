use Rattle.std.proofs.Common.{refl}
use Rattle.tb_file.proofs.Taking.{record_cause, takes_one, takes_refused, takes_damage}
use Rattle.tb_file.proofs.salvaging.take_next.Goals as goal

pub returns-in-Ok-clause-takes : goal.returns-in-Ok-clause-takes
returns-in-Ok-clause-takes g c =
    let new = c.read_record.new.scan in
    takes_one g.N.Device.disk g.N.Device.tells (g.D.Device.holds c.args.from.now) c.args.scan.now new c.args.keeper.now c.take_record.new.keeper new.last (rw c.record.ensures at c.in-Ok.ensures.takes)
    (λ file read holds has. ((rw c.in-Ok-true.field-0-test at c.in-Ok-true.ensures.reads) file read holds has).reads)

pub returns-in-Err-take_record-clause-takes : goal.returns-in-Err-take_record-clause-takes
returns-in-Err-take_record-clause-takes g c =
    let new = c.read_record.new.scan in
    takes_refused g.N.Device.disk g.N.Device.tells (g.D.Device.holds c.args.from.now) c.args.scan.now new c.args.keeper.now c.take_record.new.keeper c.in-Err-take_record.fault new.last
    (rw c.record.ensures at c.in-Err-take_record.ensures.takes)
    (λ file read holds has. ((rw c.in-Ok-true.field-0-test at c.in-Ok-true.ensures.reads) file read holds has).reads.begins)

pub returns-in-Ok-false-clause-takes : goal.returns-in-Ok-false-clause-takes
returns-in-Ok-false-clause-takes g c =
    (refl, λ file read holds has. ((rw c.in-Ok-false.field-0-test at c.in-Ok-false.ensures.reads) file read holds has).reads.0)

pub returns-in-Err-clause-takes : goal.returns-in-Err-clause-takes
returns-in-Err-clause-takes g c =
    takes_damage g.N.Device.disk g.N.Device.tells (g.D.Device.holds c.args.from.now) c.args.scan.now c.read_record.new.scan c.args.keeper.now c.args.keeper.now c.in-Err.fault c.read_record.new.scan refl
    c.in-Err.ensures.place (λ file read holds has. (c.in-Err.ensures.reads file read holds has).reads)

pub returns-in-Ok-clause-cause : goal.returns-in-Ok-clause-cause
returns-in-Ok-clause-cause g c t read has = record { ok = (c.in-Ok-true.ensures.cause t read has).ok; cause = tt }

pub returns-in-Err-take_record-clause-cause : goal.returns-in-Err-take_record-clause-cause
returns-in-Err-take_record-clause-cause g c t read has =
    record_cause g.N.Device.disk g.N.Device.tells c.in-Err-take_record.fault c.record.result.now c.args.keeper.now c.take_record.new.keeper
    (g.D.Device.disk c.args.from.now) (g.D.Device.disk c.read_record.new.device) c.in-Err-take_record.ensures.takes (c.in-Ok-true.ensures.cause t read has).ok

pub returns-in-Ok-false-clause-cause : goal.returns-in-Ok-false-clause-cause
returns-in-Ok-false-clause-cause g c t read has = record { ok = (c.in-Ok-false.ensures.cause t read has).ok; cause = tt }

pub returns-in-Err-clause-cause : goal.returns-in-Err-clause-cause
returns-in-Err-clause-cause g c t read has = record { ok = tt; cause = (c.in-Err.ensures.cause t read has).cause }

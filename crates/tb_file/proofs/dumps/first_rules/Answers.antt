use Rattle.std.proofs.Common.{inl, []}
use Rattle.tb_file.proofs.Causes.{rules_cause}
use Rattle.tb_file.proofs.Dumping.{finds_rules}
use Rattle.tb_file.proofs.Salvages.{rules_unsalvaged, first_unsalvaged}
use Rattle.tb_file.proofs.Sources.{stops_by_read}
use Rattle.tb_file.proofs.dumps.first_rules.Goals as goal

pub returns-in-Ok-true-clause-rules : goal.returns-in-Ok-true-clause-rules
returns-in-Ok-true-clause-rules g c file holds has =
    let new = c.read_record.new.scan in
    let next = (rw c.in-Ok-true.field-0-test at c.in-Ok-true.ensures.reads) file [] holds has in
    finds_rules c.rules_in.result file new.last new next.reads (rw c.record.ensures at c.rules_in.ensures)

pub returns-in-Ok-false-clause-rules : goal.returns-in-Ok-false-clause-rules
returns-in-Ok-false-clause-rules g c file holds has =
    let next = (rw c.in-Ok-false.field-0-test at c.in-Ok-false.ensures.reads) file [] holds has in
    inl next.reads.0

pub returns-in-Err-clause-rules : goal.returns-in-Err-clause-rules
returns-in-Err-clause-rules g c file holds has = stops_by_read c.in-Err.fault [] file c.read_record.new.scan (c.in-Err.ensures.reads file [] holds has).reads

pub returns-in-Ok-true-clause-cause : goal.returns-in-Ok-true-clause-cause
returns-in-Ok-true-clause-cause g c t has =
    rules_cause (g.D.Device.disk c.args.device.now) (g.D.Device.disk c.read_record.new.device) c.record.result.now c.rules_in.result c.rules_in.ensures (c.in-Ok-true.ensures.cause t [] has).ok

pub returns-in-Ok-false-clause-cause : goal.returns-in-Ok-false-clause-cause
returns-in-Ok-false-clause-cause g c t has = record { ok = tt; cause = (c.in-Ok-false.ensures.cause t [] has).ok }

pub returns-in-Err-clause-cause : goal.returns-in-Err-clause-cause
returns-in-Err-clause-cause g c t has = record { ok = tt; cause = (c.in-Err.ensures.cause t [] has).cause }

pub returns-in-Ok-true-clause-unsalvaged : goal.returns-in-Ok-true-clause-unsalvaged
returns-in-Ok-true-clause-unsalvaged g c file holds has =
    let new = c.read_record.new.scan in
    let next = (rw c.in-Ok-true.field-0-test at c.in-Ok-true.ensures.reads) file [] holds has in
    rules_unsalvaged c.rules_in.result file new.last new next.reads (rw c.record.ensures at c.rules_in.ensures)

pub returns-in-Ok-false-clause-unsalvaged : goal.returns-in-Ok-false-clause-unsalvaged
returns-in-Ok-false-clause-unsalvaged g c file holds has =
    inl ((rw c.in-Ok-false.field-0-test at c.in-Ok-false.ensures.reads) file [] holds has).reads.0

pub returns-in-Err-clause-unsalvaged : goal.returns-in-Err-clause-unsalvaged
returns-in-Err-clause-unsalvaged g c file holds has =
    first_unsalvaged c.in-Err.fault file c.args.scan.now c.read_record.new.scan has c.in-Err.ensures.place (c.in-Err.ensures.reads file [] holds has).reads

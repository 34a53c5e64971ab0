use Rattle.std.proofs.Common.{[], sym, ◌∙◌}
use Rattle.tb_file.proofs.Causes.{head_cause}
use Rattle.tb_file.proofs.Sources.{stops_by_read}
use Rattle.tb_file.proofs.Entered.{head_read, head_stops}
use Rattle.tb_file.proofs.recovering.read_head_record.Goals as goal

pub returns-in-Ok-clause-head : goal.returns-in-Ok-clause-head
returns-in-Ok-clause-head g c file holds has =
    let new = c.read_record.new.scan in
    let next = (rw c.in-Ok-true.field-0-test at c.in-Ok-true.ensures.reads) file [] holds has in
    head_read file new.last new c.args.rules.now.profile c.args.rules.now.clients_max next.reads (sym c.record.ensures ∙ c.in-Ok.ensures)

pub returns-in-Err-check_head-clause-head : goal.returns-in-Err-check_head-clause-head
returns-in-Err-check_head-clause-head g c file holds has =
    let next = (rw c.in-Ok-true.field-0-test at c.in-Ok-true.ensures.reads) file [] holds has in
    head_stops c.in-Err-check_head.fault c.args.rules.now.profile c.args.rules.now.clients_max file c.read_record.new.scan.last next.reads.begins (rw c.record.ensures at c.in-Err-check_head.ensures)

pub returns-in-Ok-false-clause-head : goal.returns-in-Ok-false-clause-head
returns-in-Ok-false-clause-head g c file holds has = ((rw c.in-Ok-false.field-0-test at c.in-Ok-false.ensures.reads) file [] holds has).reads

pub returns-in-Err-clause-head : goal.returns-in-Err-clause-head
returns-in-Err-clause-head g c file holds has = stops_by_read c.in-Err.fault [] file c.read_record.new.scan (c.in-Err.ensures.reads file [] holds has).reads

pub returns-in-Ok-clause-cause : goal.returns-in-Ok-clause-cause
returns-in-Ok-clause-cause g c t has = record { ok = (c.in-Ok-true.ensures.cause t [] has).ok; cause = tt }

pub returns-in-Err-check_head-clause-cause : goal.returns-in-Err-check_head-clause-cause
returns-in-Err-check_head-clause-cause g c t has = record {
  ok = tt;
  cause = head_cause (g.D.Device.disk c.args.device.now) (g.D.Device.disk c.read_record.new.device) c.in-Err-check_head.fault c.record.result.now c.args.rules.now.profile c.args.rules.now.clients_max
      c.in-Err-check_head.ensures (c.in-Ok-true.ensures.cause t [] has).ok;
}

pub returns-in-Ok-false-clause-cause : goal.returns-in-Ok-false-clause-cause
returns-in-Ok-false-clause-cause g c t has = record { ok = (c.in-Ok-false.ensures.cause t [] has).ok; cause = tt }

pub returns-in-Err-clause-cause : goal.returns-in-Err-clause-cause
returns-in-Err-clause-cause g c t has = record { ok = tt; cause = (c.in-Err.ensures.cause t [] has).cause }

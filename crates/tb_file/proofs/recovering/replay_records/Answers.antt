use Rattle.std.proofs.Common.{[], ◌∷◌, ℕ, List, sym, subst}
use Rattle.tb_file_journal.specs.Scans.{HasRead}
use Rattle.tb_file.specs.Keeping.{head_record}
use Rattle.tb_file.proofs.Causes.{has_start_then, memory_cause}
use Rattle.tb_file.proofs.Entered.{stays_then, extent_found}
use Rattle.tb_file.proofs.recovering.replay_records.Goals as goal

pub returns-in-Ok-true-clause-found : goal.returns-in-Ok-true-clause-found
returns-in-Ok-true-clause-found g c file holds has =
    let first = (rw c.in-Ok-true.field-0-test at c.in-Ok-true.ensures.head) file holds has in
    (c.replay_behind_head.ensures.found file (c.in-Ok-true.ensures.same file holds) first).1

pub returns-in-Ok-true-clause-stays : goal.returns-in-Ok-true-clause-stays
returns-in-Ok-true-clause-stays g c t =
    stays_then (g.D.Device.disk c.args.device.now) (g.D.Device.disk c.read_head_record.new.device) (g.D.Device.disk c.replay_behind_head.new.device) (g.met.D.Device.counts_now c.read_head_record.new.device)
    (c.read_head_record.ensures.stays t) (c.replay_behind_head.ensures.stays t)

pub returns-in-Ok-true-clause-cause : goal.returns-in-Ok-true-clause-cause
returns-in-Ok-true-clause-cause g c t has =
    let old = g.D.Device.disk c.args.device.now in
    let mid = g.D.Device.disk c.read_head_record.new.device in
    let seen = (c.read_head_record.ensures.stays t).untouched.seen in
    let first = (rw c.in-Ok-true.field-0-test at c.in-Ok-true.ensures.head) old.seen (g.met.D.Device.holds_seen c.args.device.now t) has in
    let here = subst (λ (f : List ℕ). HasRead (head_record c.args.rules.now.profile c.args.rules.now.clients_max ∷ []) f c.read_head_record.new.scan) (sym seen) first in
    has_start_then old mid (g.D.Device.disk c.replay_behind_head.new.device) (c.in-Ok-true.ensures.cause t has).ok seen c.replay_behind_head.result (c.replay_behind_head.ensures.cause t here)

pub returns-in-Ok-false-clause-found : goal.returns-in-Ok-false-clause-found
returns-in-Ok-false-clause-found g c file holds has =
    let found = (rw c.in-Ok-false.field-0-test at c.in-Ok-false.ensures.head) file holds has in
    c.new_machine.ensures.found file found.0 found.1.begins
    (extent_found file [] c.read_head_record.new.scan c.extent.result found.0 found.1 c.extent.ensures.end c.extent.ensures.count)

pub returns-in-Ok-false-clause-cause : goal.returns-in-Ok-false-clause-cause
returns-in-Ok-false-clause-cause g c t has =
    memory_cause (g.D.Device.disk c.args.device.now) (g.D.Device.disk c.read_head_record.new.device) c.new_machine.result c.new_machine.ensures.fault (c.in-Ok-false.ensures.cause t has).ok

use Rattle.std.proofs.Common.{[], ◌∷◌}
use Rattle.tb_file.specs.Keeping.{head_record}
use Rattle.tb_file.proofs.Causes.{has_start_then}
use Rattle.tb_file.proofs.Entered.{extent_found, stays_then}
use Rattle.tb_file.proofs.Orders.{in_order, not_in_order}
use Rattle.tb_file.proofs.quick.order_behind.Goals as goal

pub returns-in-Ok-clause-found : goal.returns-in-Ok-clause-found
returns-in-Ok-clause-found g c file holds has =
    let rules = c.args.rules in
    let head = head_record rules.profile rules.clients_max in
    let scan = c.pass_all.new.scan in
    let passes = c.in-Ok.ensures.passes file (head ∷ []) holds has in
    c.order_of.ensures.found file (c.in-Ok.ensures.same file holds)
    (extent_found file (head ∷ passes.0) scan c.extent.result passes.1 passes.2 c.extent.ensures.end c.extent.ensures.count)
    (in_order rules file scan c.in-Ok.time c.expose_bound.ensures passes)

pub returns-in-Err-clause-found : goal.returns-in-Err-clause-found
returns-in-Err-clause-found g c file holds has =
    let rules = c.args.rules in
    not_in_order rules file c.pass_all.new.scan c.in-Err.fault (c.in-Err.ensures.passes file (head_record rules.profile rules.clients_max ∷ []) holds has)

pub returns-in-Ok-clause-stays : goal.returns-in-Ok-clause-stays
returns-in-Ok-clause-stays g c t =
    stays_then (g.D.Device.disk c.args.device.now) (g.D.Device.disk c.pass_all.new.device) (g.D.Device.disk c.order_of.new.device) (g.met.D.Device.counts_now c.pass_all.new.device)
    (c.pass_all.ensures.stays t) (c.order_of.ensures.stays t)

pub returns-in-Ok-clause-cause : goal.returns-in-Ok-clause-cause
returns-in-Ok-clause-cause g c t has =
    let old = g.D.Device.disk c.args.device.now in
    let mid = g.D.Device.disk c.pass_all.new.device in
    let head = head_record c.args.rules.profile c.args.rules.clients_max in
    has_start_then old mid (g.D.Device.disk c.order_of.new.device) (c.in-Ok.ensures.cause t (head ∷ []) has).ok (c.pass_all.ensures.stays t).untouched.seen c.order_of.result (c.order_of.ensures.cause t)

pub returns-in-Err-clause-cause : goal.returns-in-Err-clause-cause
returns-in-Err-clause-cause g c t has =
    record { ok = tt; cause = (c.in-Err.ensures.cause t (head_record c.args.rules.profile c.args.rules.clients_max ∷ []) has).cause }

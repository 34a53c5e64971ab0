use Rattle.std.proofs.Common.{[], ◌∷◌, ℕ, List, sym, subst}
use Rattle.tb_file_journal.specs.Scans.{HasRead}
use Rattle.tb_file.specs.Keeping.{head_record}
use Rattle.tb_file.proofs.Causes.{has_start_then}
use Rattle.tb_file.proofs.Entered.{stays_then}
use Rattle.tb_file.proofs.Orders.{without_rules}
use Rattle.tb_file.proofs.quick.order_by.Goals as goal

pub returns-in-Ok-clause-found : goal.returns-in-Ok-clause-found
returns-in-Ok-clause-found g c file holds has = c.order_behind.ensures.found file (c.in-Ok.ensures.same file holds) (c.in-Ok.ensures.rules file holds has)

pub returns-in-Ok-clause-stays : goal.returns-in-Ok-clause-stays
returns-in-Ok-clause-stays g c t =
    stays_then (g.D.Device.disk c.args.device.now) (g.D.Device.disk c.first_rules.new.device) (g.D.Device.disk c.order_behind.new.device) (g.met.D.Device.counts_now c.first_rules.new.device)
    (c.first_rules.ensures.stays t) (c.order_behind.ensures.stays t)

pub returns-in-Ok-clause-cause : goal.returns-in-Ok-clause-cause
returns-in-Ok-clause-cause g c t has =
    let old = g.D.Device.disk c.args.device.now in
    let mid = g.D.Device.disk c.first_rules.new.device in
    let seen = (c.first_rules.ensures.stays t).untouched.seen in
    let first = c.in-Ok.ensures.rules old.seen (g.met.D.Device.holds_seen c.args.device.now t) has in
    let here = subst (λ (f : List ℕ). HasRead (head_record c.in-Ok.rules.profile c.in-Ok.rules.clients_max ∷ []) f c.first_rules.new.scan) (sym seen) first in
    has_start_then old mid (g.D.Device.disk c.order_behind.new.device) (c.in-Ok.ensures.cause t has).ok seen c.order_behind.result (c.order_behind.ensures.cause t here)

pub returns-in-Err-clause-found : goal.returns-in-Err-clause-found
returns-in-Err-clause-found g c file holds has = without_rules c.in-Err.fault file (c.in-Err.ensures.rules file holds has)

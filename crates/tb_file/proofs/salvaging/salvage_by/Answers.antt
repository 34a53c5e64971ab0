use Rattle.std.proofs.Common.{[], ◌∷◌, ℕ, List, sym, subst}
use Rattle.tb_file_journal.specs.Scans.{HasRead}
use Rattle.tb_file.specs.Keeping.{head_record}
use Rattle.tb_file.specs.RecordSteps.{HoldsRead}
use Rattle.tb_file.proofs.Causes.{has_start_then}
use Rattle.tb_file.proofs.Entered.{stays_then}
use Rattle.tb_file.proofs.Salvages.{ok_of, moments_of, none_made}
use Rattle.tb_file.proofs.salvaging.salvage_by.Goals as goal

pub returns-in-Ok-clause-salvaged : goal.returns-in-Ok-clause-salvaged
returns-in-Ok-clause-salvaged g c =
    let rules = c.in-Ok.rules in
    ok_of (HoldsRead (g.D.Device.holds c.first_rules.new.device) (head_record rules.profile rules.clients_max ∷ []) c.first_rules.new.scan) (HoldsRead (g.D.Device.holds c.args.from.now) [] c.args.scan.now)
    (λ file of. (c.in-Ok.ensures.same file of.0, c.in-Ok.ensures.rules file of.0 of.1)) g.N.Device.tells g.N.Device.disk c.salvage_behind.result c.salvage_behind.ensures.salvaged

pub returns-in-Ok-clause-unsalvaged : goal.returns-in-Ok-clause-unsalvaged
returns-in-Ok-clause-unsalvaged g c file of = c.salvage_behind.ensures.unsalvaged file (c.in-Ok.ensures.same file of.0, c.in-Ok.ensures.rules file of.0 of.1)

pub returns-in-Ok-clause-any_moment : goal.returns-in-Ok-clause-any_moment
returns-in-Ok-clause-any_moment g c t =
    let rules = c.in-Ok.rules in
    moments_of (HoldsRead (g.D.Device.holds c.first_rules.new.device) (head_record rules.profile rules.clients_max ∷ []) c.first_rules.new.scan) (HoldsRead (g.D.Device.holds c.args.from.now) [] c.args.scan.now)
    (λ file of. (c.in-Ok.ensures.same file of.0, c.in-Ok.ensures.rules file of.0 of.1)) (g.N.Device.disk c.args.into) _ (c.salvage_behind.ensures.any_moment t)

pub returns-in-Ok-clause-stays : goal.returns-in-Ok-clause-stays
returns-in-Ok-clause-stays g c t =
    stays_then (g.D.Device.disk c.args.from.now) (g.D.Device.disk c.first_rules.new.device) (g.D.Device.disk c.salvage_behind.new.from) (g.met.D.Device.counts_now c.first_rules.new.device)
    (c.first_rules.ensures.stays t) (c.salvage_behind.ensures.stays t)

pub returns-in-Ok-clause-cause_old : goal.returns-in-Ok-clause-cause_old
returns-in-Ok-clause-cause_old g c t has =
    let old = g.D.Device.disk c.args.from.now in
    let mid = g.D.Device.disk c.first_rules.new.device in
    let seen = (c.first_rules.ensures.stays t).untouched.seen in
    let first = c.in-Ok.ensures.rules old.seen (g.met.D.Device.holds_seen c.args.from.now t) has in
    let here = subst (λ (f : List ℕ). HasRead (head_record c.in-Ok.rules.profile c.in-Ok.rules.clients_max ∷ []) f c.first_rules.new.scan) (sym seen) first in
    has_start_then old mid (g.D.Device.disk c.salvage_behind.new.from) (c.in-Ok.ensures.cause t has).ok seen _ (c.salvage_behind.ensures.cause_old t here)

pub returns-in-Err-clause-unsalvaged : goal.returns-in-Err-clause-unsalvaged
returns-in-Err-clause-unsalvaged g c file of = c.in-Err.ensures.unsalvaged file of.0 of.1

pub returns-in-Err-clause-any_moment : goal.returns-in-Err-clause-any_moment
returns-in-Err-clause-any_moment g c t =
    none_made (HoldsRead (g.D.Device.holds c.args.from.now) [] c.args.scan.now) (g.N.Device.disk c.args.into) (g.met.N.Device.only_now c.args.into)

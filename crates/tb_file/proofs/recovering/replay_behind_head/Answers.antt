use Rattle.std.proofs.Common.{[], ◌∷◌}
use Rattle.tb_file.specs.Keeping.{head_record}
use Rattle.tb_file.proofs.Entered.{behind_begins, behind_not, restored_behind}
use Rattle.tb_file.proofs.recovering.replay_behind_head.Goals as goal

pub returns-in-Ok-enter_all-clause-found : goal.returns-in-Ok-enter_all-clause-found
returns-in-Ok-enter_all-clause-found g c file holds has =
    let rules = c.args.rules.now in
    let head = head_record rules.profile rules.clients_max in
    let scan = c.enter_all.new.scan in
    let S = c.in-Ok.machine in
    let T = c.enter_all.new.machine in
    let all = c.in-Ok-enter_all.ensures.enters file (head ∷ []) holds has in (
      behind_begins head file scan S T all,
      restored_behind rules.profile rules.clients_max c.expose_bound.ensures file scan c.extent.result S T c.in-Ok.ensures c.extent.ensures.end c.extent.ensures.count all,
    )

pub returns-in-Err-clause-found : goal.returns-in-Err-clause-found
returns-in-Err-clause-found g c file holds has =
    let rules = c.args.rules.now in
    behind_not rules file c.enter_all.new.scan c.in-Ok.machine c.enter_all.new.machine c.in-Ok.ensures c.in-Err.fault
    (c.in-Err.ensures.enters file (head_record rules.profile rules.clients_max ∷ []) holds has)

pub returns-in-Ok-enter_all-clause-cause : goal.returns-in-Ok-enter_all-clause-cause
returns-in-Ok-enter_all-clause-cause g c t has =
    record { ok = (c.in-Ok-enter_all.ensures.cause t (head_record c.args.rules.now.profile c.args.rules.now.clients_max ∷ []) has).ok; cause = tt }

pub returns-in-Err-clause-cause : goal.returns-in-Err-clause-cause
returns-in-Err-clause-cause g c t has =
    record { ok = tt; cause = (c.in-Err.ensures.cause t (head_record c.args.rules.now.profile c.args.rules.now.clients_max ∷ []) has).cause }

pub returns-in_default-clause-found : goal.returns-in_default-clause-found
returns-in_default-clause-found g c file holds has =
    (has.begins, record { records = head_record c.args.rules.now.profile c.args.rules.now.clients_max ∷ []; begins = has.begins; stops = tt })

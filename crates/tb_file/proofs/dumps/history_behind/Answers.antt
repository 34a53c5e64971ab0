use Rattle.tb_file.proofs.Causes.{has_start_then}
use Rattle.tb_file.proofs.Entered.{stays_then}
use Rattle.tb_file.proofs.WholeFiles.{is_history, is_no_history}
use Rattle.tb_file.proofs.dumps.history_behind.Goals as goal

pub returns-in-Ok-clause-found : goal.returns-in-Ok-clause-found
returns-in-Ok-clause-found g c file holds has =
    let found = c.in-Ok.ensures.found file holds has in
    c.history_of.ensures.found file (c.in-Ok.ensures.same file holds) found.1.extent_is found.0 (is_history c.args.rules file c.in-Ok.machine c.in-Ok.extent found.0 found.1)

pub returns-in-Err-clause-found : goal.returns-in-Err-clause-found
returns-in-Err-clause-found g c file holds has =
    let found = c.in-Err.ensures.found file holds has in
    is_no_history c.in-Err.fault c.args.rules file found.0 found.1

pub returns-in-Ok-clause-stays : goal.returns-in-Ok-clause-stays
returns-in-Ok-clause-stays g c t =
    stays_then (g.D.Device.disk c.args.device.now) (g.D.Device.disk c.replay_behind_head.new.device) (g.D.Device.disk c.history_of.new.device) (g.met.D.Device.counts_now c.replay_behind_head.new.device)
    (c.replay_behind_head.ensures.stays t) (c.history_of.ensures.stays t)

pub returns-in-Ok-clause-cause : goal.returns-in-Ok-clause-cause
returns-in-Ok-clause-cause g c t has =
    let old = g.D.Device.disk c.args.device.now in
    let mid = g.D.Device.disk c.replay_behind_head.new.device in
    has_start_then old mid (g.D.Device.disk c.history_of.new.device) (c.in-Ok.ensures.cause t has).ok (c.replay_behind_head.ensures.stays t).untouched.seen c.history_of.result (c.history_of.ensures.cause t)

use Rattle.tb_file.proofs.TakenRecords.{usable_at, ready_at, behind_done, behind_uncommitted, behind_not, none_behind, cause_behind_not, cause_uncommitted}
use Rattle.tb_file.proofs.Entered.{stays_then}
use Rattle.tb_file.proofs.salvaging.take_behind.Goals as goal

pub returns-in-Ok-commit_taken-clause-takes : goal.returns-in-Ok-commit_taken-clause-takes
returns-in-Ok-commit_taken-clause-takes g c =
    behind_done g.N.Device.disk g.N.Device.tells (g.D.Device.holds c.args.from.now) (g.D.Device.holds c.take_all-taken.new.from) c.take_all-taken.ensures.same c.take_all-taken.result.0 c.args.scan.now c.args.keeper.now
    c.take_all-taken.new.keeper c.take_all-taken.result.1 c.in-Ok.stop c.commit_taken.new.keeper c.take_all-taken.ensures.takes c.in-Ok.ensures.stops c.in-Ok-commit_taken.ensures.commits

pub returns-in-Err-commit_taken-clause-takes : goal.returns-in-Err-commit_taken-clause-takes
returns-in-Err-commit_taken-clause-takes g c =
    behind_uncommitted g.N.Device.disk g.N.Device.tells (g.D.Device.holds c.args.from.now) (g.D.Device.holds c.take_all-taken.new.from) c.take_all-taken.ensures.same c.take_all-taken.result.0 c.args.scan.now c.args.keeper.now
    c.take_all-taken.new.keeper c.take_all-taken.result.1 c.in-Ok.stop c.in-Err-commit_taken.fault c.commit_taken.new.keeper c.take_all-taken.ensures.takes c.in-Ok.ensures.stops c.in-Err-commit_taken.ensures.commits

pub returns-in-Err-clause-takes : goal.returns-in-Err-clause-takes
returns-in-Err-clause-takes g c =
    behind_not g.N.Device.disk g.N.Device.tells (g.D.Device.holds c.args.from.now) (g.D.Device.holds c.take_all-taken.new.from) c.take_all-taken.ensures.same c.take_all-taken.result.0 c.args.scan.now c.args.keeper.now
    c.take_all-taken.new.keeper c.take_all-taken.result.1 c.in-Err.fault c.take_all-taken.ensures.takes c.in-Err.ensures.stops

pub returns-in-Ok-commit_taken-clause-stays : goal.returns-in-Ok-commit_taken-clause-stays
returns-in-Ok-commit_taken-clause-stays g c t =
    stays_then (g.D.Device.disk c.args.from.now) (g.D.Device.disk c.take_all-taken.new.from) (g.D.Device.disk c.stopped_by.new.from) (g.met.D.Device.counts_now c.take_all-taken.new.from)
    (c.take_all-taken.ensures.stays t) (c.stopped_by.ensures.stays t)

pub returns-in-Err-commit_taken-clause-stays : goal.returns-in-Err-commit_taken-clause-stays
returns-in-Err-commit_taken-clause-stays g c t =
    stays_then (g.D.Device.disk c.args.from.now) (g.D.Device.disk c.take_all-taken.new.from) (g.D.Device.disk c.stopped_by.new.from) (g.met.D.Device.counts_now c.take_all-taken.new.from)
    (c.take_all-taken.ensures.stays t) (c.stopped_by.ensures.stays t)

pub returns-in-Err-clause-stays : goal.returns-in-Err-clause-stays
returns-in-Err-clause-stays g c t =
    stays_then (g.D.Device.disk c.args.from.now) (g.D.Device.disk c.take_all-taken.new.from) (g.D.Device.disk c.stopped_by.new.from) (g.met.D.Device.counts_now c.take_all-taken.new.from)
    (c.take_all-taken.ensures.stays t) (c.stopped_by.ensures.stays t)

pub returns-in-Ok-commit_taken-clause-cause : goal.returns-in-Ok-commit_taken-clause-cause
returns-in-Ok-commit_taken-clause-cause g c t read has = record {
  ok = none_behind g.D.Device.disk c.args.from.now c.take_all-taken.new.from c.stopped_by.new.from (c.take_all-taken.ensures.stays t).untouched.seen (g.D.Device.holds c.take_all-taken.new.from) c.take_all-taken.result.0
      c.take_all-taken.result.1 c.in-Ok.stop (c.take_all-taken.ensures.cause t read has) c.in-Ok.ensures.stops (c.in-Ok.ensures.cause t) c.stopped_by.ensures.unread;
  cause = tt;
}

pub returns-in-Err-commit_taken-clause-cause : goal.returns-in-Err-commit_taken-clause-cause
returns-in-Err-commit_taken-clause-cause g c t read has =
    cause_uncommitted g.N.Device.disk g.N.Device.tells c.in-Err-commit_taken.fault c.take_all-taken.new.keeper c.commit_taken.new.keeper (g.D.Device.disk c.args.from.now) (g.D.Device.disk c.stopped_by.new.from)
    c.in-Err-commit_taken.ensures.commits
    (none_behind g.D.Device.disk c.args.from.now c.take_all-taken.new.from c.stopped_by.new.from (c.take_all-taken.ensures.stays t).untouched.seen (g.D.Device.holds c.take_all-taken.new.from) c.take_all-taken.result.0
    c.take_all-taken.result.1 c.in-Ok.stop (c.take_all-taken.ensures.cause t read has) c.in-Ok.ensures.stops (c.in-Ok.ensures.cause t) c.stopped_by.ensures.unread)

pub returns-in-Err-clause-cause : goal.returns-in-Err-clause-cause
returns-in-Err-clause-cause g c t read has =
    cause_behind_not g.D.Device.disk c.args.from.now c.take_all-taken.new.from c.stopped_by.new.from (c.take_all-taken.ensures.stays t).untouched.seen (g.D.Device.holds c.take_all-taken.new.from) c.take_all-taken.result.0
    c.take_all-taken.result.1 c.in-Err.fault (c.take_all-taken.ensures.cause t read has) c.in-Err.ensures.stops (c.in-Err.ensures.cause t) c.stopped_by.ensures.unread

pub commit_taken-requires-clause-usable : goal.commit_taken-requires-clause-usable
commit_taken-requires-clause-usable g c =
    usable_at g.N.Device.disk g.N.Device.tells (g.D.Device.holds c.args.from.now) (g.D.Device.holds c.take_all-taken.new.from) c.take_all-taken.ensures.same c.take_all-taken.result.0 c.args.scan.now c.args.keeper.now
    c.take_all-taken.new.keeper c.take_all-taken.result.1 c.in-Ok.stop c.take_all-taken.ensures.takes c.in-Ok.ensures.stops

pub commit_taken-requires-clause-ready : goal.commit_taken-requires-clause-ready
commit_taken-requires-clause-ready g c =
    ready_at g.N.Device.disk g.N.Device.tells (g.D.Device.holds c.args.from.now) (g.D.Device.holds c.take_all-taken.new.from) c.take_all-taken.ensures.same c.take_all-taken.result.0 c.args.scan.now c.args.keeper.now
    c.take_all-taken.new.keeper c.take_all-taken.result.1 c.in-Ok.stop c.take_all-taken.ensures.takes c.in-Ok.ensures.stops

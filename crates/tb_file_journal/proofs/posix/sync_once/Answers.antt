use Rattle.std.proofs.Common.{refl}
use Rattle.tb_file_journal.specs.declared.faults.JournalFault.TheVariants.{SyncFailed}
use Rattle.tb_file_journal.specs.System.{sync_fault_of}
use Rattle.tb_file_journal.proofs.Retried.{interrupted_is, waits_again, sync_done, sync_failed, partly_again}
use Rattle.tb_file_journal.proofs.posix.sync_once.Goals as goal

pub returns-in-Ok-clause-syncs : goal.returns-in-Ok-clause-syncs
returns-in-Ok-clause-syncs g c t = let so_far = c.loop.invariant t in sync_done (g.S.System.disk c.args.system.now) (g.S.System.disk c.loop.system) (g.S.System.disk c.fdatasync.new.self) (g.met.S.System.counts_now c.args.system.now) (g.met.S.System.stays c.args.system.now t) so_far.0 so_far.1.none (c.in-Ok.ensures.syncs t)

pub returns-in_default : goal.returns-in_default
returns-in_default g c = record {
  names = refl;
  syncs = λ t. let so_far = c.loop.invariant t in sync_failed (g.S.System.disk c.args.system.now) (g.S.System.disk c.loop.system) (g.S.System.disk c.fdatasync.new.self) (g.met.S.System.counts_now c.args.system.now) (g.met.S.System.stays c.args.system.now t) so_far.0 so_far.1.none c.in-Err.kind SyncFailed c.in_default.not-Interrupted refl (c.in-Err.ensures.syncs t);
}

pub loop-preserved : goal.loop-preserved
loop-preserved g c t =
    let so_far = c.loop.invariant t in
    let call = c.in-Err.ensures.syncs t in
    (partly_again (g.S.System.disk c.args.system.now) (g.S.System.disk c.loop.system) (g.S.System.disk c.fdatasync.new.self) (g.met.S.System.counts_now c.args.system.now) (g.met.S.System.stays c.args.system.now t) so_far.0 c.in-Err.kind c.in-Interrupted.is call, waits_again sync_fault_of c.in-Err.kind (g.S.System.disk c.args.system.now) (g.S.System.disk c.loop.system) (g.S.System.disk c.fdatasync.new.self) (g.S.System.interruptions c.args.system.now) (g.S.System.interruptions c.loop.system) (g.S.System.interruptions c.fdatasync.new.self) c.loop.counter c.in-Interrupted.is call.counts (c.in-Err.ensures.again t (interrupted_is c.in-Err.kind c.in-Interrupted.is)) so_far.1)

use Rattle.std.proofs.Common.{◌∙◌}
use Rattle.tb_file_journal.specs.Device.{Cut}
use Rattle.tb_file_journal.specs.System.{fault_of}
use Rattle.tb_file_journal.proofs.SystemCalls.{changes_then, cut_then}
use Rattle.tb_file_journal.proofs.Retried.{interrupted_is, waits_again, cut_done, cut_failed}
use Rattle.tb_file_journal.proofs.posix.cut_once.Goals as goal

pub returns-in-Ok-clause-cuts : goal.returns-in-Ok-clause-cuts
returns-in-Ok-clause-cuts g c t = let so_far = c.loop.invariant t in cut_done c.args.len (g.S.System.disk c.args.system.now) (g.S.System.disk c.loop.system) (g.S.System.disk c.ftruncate.new.self) so_far.0 so_far.1 so_far.2.none (c.in-Ok.ensures.cuts t)

pub returns-in_default : goal.returns-in_default
returns-in_default g c = record {
  names = c.fault_of.ensures.names;
  cuts = λ t. let so_far = c.loop.invariant t in cut_failed c.args.len (g.S.System.disk c.args.system.now) (g.S.System.disk c.loop.system) (g.S.System.disk c.ftruncate.new.self) so_far.0 so_far.1 so_far.2.none c.in-Err.kind c.fault_of.result c.in_default.not-Interrupted c.fault_of.ensures.is (c.in-Err.ensures.cuts t);
}

pub loop-preserved : goal.loop-preserved
loop-preserved g c t =
    let so_far = c.loop.invariant t in
    let call = c.in-Err.ensures.cuts t in
    (call.interrupted (interrupted_is c.in-Err.kind c.in-Interrupted.is) ∙ so_far.0, changes_then (Cut c.args.len) (g.S.System.disk c.args.system.now) (g.S.System.disk c.loop.system) (g.S.System.disk c.ftruncate.new.self) (cut_then c.args.len) so_far.1 call.changes, waits_again fault_of c.in-Err.kind (g.S.System.disk c.args.system.now) (g.S.System.disk c.loop.system) (g.S.System.disk c.ftruncate.new.self) (g.S.System.interruptions c.args.system.now) (g.S.System.interruptions c.loop.system) (g.S.System.interruptions c.ftruncate.new.self) c.loop.counter c.in-Interrupted.is call.counts (c.in-Err.ensures.again t (interrupted_is c.in-Err.kind c.in-Interrupted.is)) so_far.2)

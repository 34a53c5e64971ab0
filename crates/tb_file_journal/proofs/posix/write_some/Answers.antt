use Rattle.std.proofs.Common.{◌∙◌, length}
use Rattle.tb_file_journal.specs.Device.{Torn}
use Rattle.tb_file_journal.specs.System.{fault_of}
use Rattle.tb_file_journal.proofs.SystemCalls.{changes_then, torn_then}
use Rattle.tb_file_journal.proofs.Retried.{interrupted_is, waits_again, write_done, write_failed}
use Rattle.tb_file_journal.proofs.posix.write_some.Goals as goal

pub returns-in-Ok-clause-writes : goal.returns-in-Ok-clause-writes
returns-in-Ok-clause-writes g c t = let so_far = c.loop.invariant t in write_done c.args.offset c.args.bytes.now (g.S.System.disk c.args.system.now) (g.S.System.disk c.loop.system) (g.S.System.disk c.pwrite.new.self) so_far.0 so_far.1 so_far.2.none c.in-Ok.count (c.in-Ok.ensures.writes t)

pub returns-in_default : goal.returns-in_default
returns-in_default g c = record {
  some = tt;
  within = tt;
  names = c.fault_of.ensures.names;
  writes = λ t. let so_far = c.loop.invariant t in write_failed c.args.offset c.args.bytes.now (g.S.System.disk c.args.system.now) (g.S.System.disk c.loop.system) (g.S.System.disk c.pwrite.new.self) so_far.0 so_far.1 so_far.2.none c.in-Err.kind c.fault_of.result c.in_default.not-Interrupted c.fault_of.ensures.is (c.in-Err.ensures.writes t);
}

pub loop-preserved : goal.loop-preserved
loop-preserved g c t =
    let so_far = c.loop.invariant t in
    let call = c.in-Err.ensures.writes t in
    (call.interrupted (interrupted_is c.in-Err.kind c.in-Interrupted.is) ∙ so_far.0, changes_then (Torn c.args.offset (length c.args.bytes.now)) (g.S.System.disk c.args.system.now) (g.S.System.disk c.loop.system) (g.S.System.disk c.pwrite.new.self) (torn_then c.args.offset (length c.args.bytes.now)) so_far.1 call.changes, waits_again fault_of c.in-Err.kind (g.S.System.disk c.args.system.now) (g.S.System.disk c.loop.system) (g.S.System.disk c.pwrite.new.self) (g.S.System.interruptions c.args.system.now) (g.S.System.interruptions c.loop.system) (g.S.System.interruptions c.pwrite.new.self) c.loop.counter c.in-Interrupted.is call.counts (c.in-Err.ensures.again t (interrupted_is c.in-Err.kind c.in-Interrupted.is)) so_far.2)

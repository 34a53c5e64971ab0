use Rattle.tb_file_journal.specs.System.{fault_of}
use Rattle.tb_file_journal.proofs.SystemCalls.{looked_then}
use Rattle.tb_file_journal.proofs.Retried.{interrupted_is, waits_again, read_done, read_failed}
use Rattle.tb_file_journal.proofs.posix.read_some.Goals as goal

pub returns-in-Ok-clause-reads : goal.returns-in-Ok-clause-reads
returns-in-Ok-clause-reads g c t = let so_far = c.loop.invariant t in read_done c.args.offset c.pread.new.into (g.S.System.disk c.args.system.now) (g.S.System.disk c.loop.system) (g.S.System.disk c.pread.new.self) (g.met.S.System.counts_now c.args.system.now) so_far.0 so_far.1.none c.in-Ok.count (c.in-Ok.ensures.reads t)

pub returns-in_default : goal.returns-in_default
returns-in_default g c = record {
  within = tt;
  names = c.fault_of.ensures.names;
  reads = λ t. let so_far = c.loop.invariant t in read_failed c.args.offset c.pread.new.into (g.S.System.disk c.args.system.now) (g.S.System.disk c.loop.system) (g.S.System.disk c.pread.new.self) (g.met.S.System.counts_now c.args.system.now) so_far.0 so_far.1.none c.in-Err.kind c.fault_of.result c.in_default.not-Interrupted c.fault_of.ensures.is (c.in-Err.ensures.reads t);
}

pub loop-preserved : goal.loop-preserved
loop-preserved g c t =
    let so_far = c.loop.invariant t in
    let call = c.in-Err.ensures.reads t in
    (looked_then (g.S.System.disk c.args.system.now) (g.S.System.disk c.loop.system) (g.S.System.disk c.pread.new.self) (g.met.S.System.counts_now c.args.system.now) so_far.0 call.looks, waits_again fault_of c.in-Err.kind (g.S.System.disk c.args.system.now) (g.S.System.disk c.loop.system) (g.S.System.disk c.pread.new.self) (g.S.System.interruptions c.args.system.now) (g.S.System.interruptions c.loop.system) (g.S.System.interruptions c.pread.new.self) c.loop.counter c.in-Interrupted.is call.counts (c.in-Err.ensures.again t (interrupted_is c.in-Err.kind c.in-Interrupted.is)) so_far.1)

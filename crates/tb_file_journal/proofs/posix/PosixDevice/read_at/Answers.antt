use Rattle.std.proofs.Common.{◌-◌, ◌<◌, ◌^◌, arith, length, subst, ℕ, Ok, Err}
use borrow.Rule.Slice.PartMut.{post_of}
use Rattle.tb_file_journal.specs.private.Posix.{ReadsSome}
use Rattle.tb_file_journal.proofs.WholeCalls.{room_for, next_fits, read_more, read_fails}
use Rattle.tb_file_journal.proofs.posix.PosixDevice.read_at.Goals as goal

pub loop-count-preserved : goal.loop-count-preserved
loop-count-preserved g c =
    let count = c.loop-count.count in
    let into = c.loop-count.into in
    let part = c.read_some.new.into in
    let post = post_of count (length into - count) into in (
      room_for count c.in-Ok.more into part post c.loop-count.invariant.0 c.in-Ok.ensures.within,
      λ t.
          let so_far = c.loop-count.invariant.1 t in
          let small : c.args.at < 2 ^ 64 = omega arith in
          let here = c.offset_of.ensures (next_fits c.args.at count into (g.S.System.disk c.args.self.now.system).seen small (g.met.S.System.fits c.args.self.now.system t) c.loop-count.invariant.0 so_far.same) in
          read_more c.args.at count into (g.S.System.disk c.args.self.now.system) (g.S.System.disk c.loop-count.self.system) (g.S.System.disk c.read_some.new.system) (g.met.S.System.counts_now c.args.self.now.system) c.loop-count.invariant.0 so_far
          c.in-Ok.more part post c.in-Ok.ensures.within
          (subst (λ (o : ℕ). ReadsSome o part (Ok c.in-Ok.more) (g.S.System.disk c.loop-count.self.system) (g.S.System.disk c.read_some.new.system)) here (c.in-Ok.ensures.reads t)),
    )

pub returns-in-Err-clause-looks : goal.returns-in-Err-clause-looks
returns-in-Err-clause-looks g c t =
    let count = c.loop-count.count in
    let into = c.loop-count.into in
    let part = c.read_some.new.into in
    let so_far = c.loop-count.invariant.1 t in
    let small : c.args.at < 2 ^ 64 = omega arith in
    let here = c.offset_of.ensures (next_fits c.args.at count into (g.S.System.disk c.args.self.now.system).seen small (g.met.S.System.fits c.args.self.now.system t) c.loop-count.invariant.0 so_far.same) in
    read_fails c.args.at count into (g.S.System.disk c.args.self.now.system) (g.S.System.disk c.loop-count.self.system) (g.S.System.disk c.read_some.new.system) (g.met.S.System.counts_now c.args.self.now.system) c.loop-count.invariant.0 so_far
    c.in-Err.fault part
    (subst (λ (o : ℕ). ReadsSome o part (Err c.in-Err.fault) (g.S.System.disk c.loop-count.self.system) (g.S.System.disk c.read_some.new.system)) here (c.in-Err.ensures.reads t))

use Rattle.std.proofs.Common.{◌-◌, arith, drop, length, length-take, length-drop, Ok, Err}
use Rattle.tb_file_journal.proofs.WholeCalls.{goes_on_within, as_rest, write_more, write_fails, write_all}
use Rattle.tb_file_journal.proofs.posix.PosixDevice.write_at.Goals as goal

pub loop-count-preserved : goal.loop-count-preserved
loop-count-preserved g c =
    let count = c.loop-count.count in
    let bytes = c.args.bytes.now in (
      omega (arith, c.in-Ok.ensures.within, length-take (length bytes - count) (drop count bytes), length-drop count bytes),
      λ t.
          let so_far = c.loop-count.invariant.1 t in
          let within = goes_on_within c.args.at count bytes (g.S.System.disk c.args.self.now.system) (g.S.System.disk c.loop-count.self.system) (c.requires t) c.loop-count.invariant.0 so_far in
          let short = g.met.S.System.fits c.loop-count.self.system t in
          let here = c.offset_of.ensures (omega (arith, within, short)) in
          write_more c.args.at count bytes (g.S.System.disk c.args.self.now.system) (g.S.System.disk c.loop-count.self.system) (c.requires t) c.loop-count.invariant.0 so_far (g.S.System.disk c.write_some.new.system) c.in-Ok.written
          (as_rest c.args.at count c.offset_of.result bytes (Ok c.in-Ok.written) (g.S.System.disk c.loop-count.self.system) (g.S.System.disk c.write_some.new.system) here (c.in-Ok.ensures.writes t)),
    )

pub returns-in-Err-clause-writes : goal.returns-in-Err-clause-writes
returns-in-Err-clause-writes g c t =
    let count = c.loop-count.count in
    let bytes = c.args.bytes.now in
    let so_far = c.loop-count.invariant.1 t in
    let within = goes_on_within c.args.at count bytes (g.S.System.disk c.args.self.now.system) (g.S.System.disk c.loop-count.self.system) (c.requires t) c.loop-count.invariant.0 so_far in
    let short = g.met.S.System.fits c.loop-count.self.system t in
    let here = c.offset_of.ensures (omega (arith, within, short)) in
    write_fails c.args.at count bytes (g.S.System.disk c.args.self.now.system) (g.S.System.disk c.loop-count.self.system) (c.requires t) c.loop-count.invariant.0 so_far (g.S.System.disk c.write_some.new.system) c.in-Err.fault
    (as_rest c.args.at count c.offset_of.result bytes (Err c.in-Err.fault) (g.S.System.disk c.loop-count.self.system) (g.S.System.disk c.write_some.new.system) here (c.in-Err.ensures.writes t))

pub returns-clause-writes : goal.returns-clause-writes
returns-clause-writes g c t =
    let so_far = c.loop-count.invariant.1 t in
    write_all c.args.at c.loop-count.count c.args.bytes.now (g.S.System.disk c.args.self.now.system) (g.S.System.disk c.loop-count.self.system) (c.requires t) c.loop-count.invariant.0 so_far (omega arith)

pub write_some-requires-clause-within : goal.write_some-requires-clause-within
write_some-requires-clause-within g c t =
    let count = c.loop-count.count in
    let bytes = c.args.bytes.now in
    let within = goes_on_within c.args.at count bytes (g.S.System.disk c.args.self.now.system) (g.S.System.disk c.loop-count.self.system) (c.requires t) c.loop-count.invariant.0 (c.loop-count.invariant.1 t) in
    let short = g.met.S.System.fits c.loop-count.self.system t in
    let here = c.offset_of.ensures (omega (arith, within, short)) in
    omega (arith, within, here)

pub loop-count-smaller : goal.loop-count-smaller
loop-count-smaller g c = omega (arith, c.in-Ok.ensures.some)

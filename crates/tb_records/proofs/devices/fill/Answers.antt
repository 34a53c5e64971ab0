use Rattle.std.proofs.Common.{◌∙◌, ◌≤◌, length, take, sym, subst, refl, arith, length-take}
use Rattle.std.proofs.KnownBytes.{Consumes-trans, Consumes-kept}
use Rattle.std.specs.Io.KnownBytes.{Consumes}
use Rattle.tb_records.proofs.Pieces.{filled, put_mid-long}
use Rattle.tb_records.proofs.devices.fill.Goals as goal

pub loop-at-preserved : goal.loop-at-preserved
loop-at-preserved g c =
    let old = c.loop-at.buf in
    let part = c.pull.new.buf in
    let bound : c.in-Ok.n ≤ length part = c.in-Ok.ensures.bound.0 in
    record {
      within = put_mid-long c.loop-at.at c.in-Ok.n old part c.loop-at.invariant.within bound;
      bytes = subst (Consumes (g.S.Source.input c.args.source.now).left (g.S.Source.input c.pull.new.self).left)
          (sym (filled c.loop-at.at c.in-Ok.n _ old part c.loop-at.invariant.within bound))
          (Consumes-trans _ _ _ _ _ c.loop-at.invariant.bytes c.in-Ok.ensures.bytes.0);
      counted = c.in-Ok.ensures.counted.counted ∙ c.loop-at.invariant.counted;
    }

pub returns-in-Err-clause-bytes : goal.returns-in-Err-clause-bytes
returns-in-Err-clause-bytes g c = (
  refl,
  record {
    front = take c.loop-at.at c.loop-at.buf;
    short = omega (arith, length-take c.loop-at.at c.loop-at.buf);
    bytes = Consumes-kept _ _ _ _ c.loop-at.invariant.bytes c.in-Err.ensures.bytes;
  },
)

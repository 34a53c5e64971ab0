use Rattle.std.proofs.Common.{◌∙◌, sym, subst, arith, length}
use Rattle.std.specs.Io.KnownBytes.{Appends}
use Rattle.std.proofs.KnownBytes.{Appends-trans}
use Rattle.tb_records.proofs.Pieces.{taken, flows, between-long}
use Rattle.tb_records.proofs.devices.put_all.Goals as goal

pub loop-at-preserved : goal.loop-at-preserved
loop-at-preserved g c =
    let bytes = c.args.bytes.now in
    record {
      within = between-long c.loop-at.at c.in-Ok.n bytes c.loop-at.invariant.within c.in-Ok.ensures.bound;
      grown = subst (Appends (g.W.Sink.output c.args.sink.now).written (g.W.Sink.output c.put.new.self).written)
          (sym (taken c.loop-at.at c.in-Ok.n (length bytes) bytes (omega arith)))
          (Appends-trans _ _ _ _ _ c.loop-at.invariant.grown c.in-Ok.ensures.bytes);
      counted = c.in-Ok.ensures.counted.counted ∙ c.loop-at.invariant.counted;
      flowed = flows _ _ _ _ c.in-Ok.n-test.1 c.in-Ok.ensures.counted ∙ c.loop-at.invariant.flowed;
    }

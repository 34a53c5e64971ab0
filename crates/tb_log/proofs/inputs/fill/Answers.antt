use Rattle.std.proofs.Common.{◌∙◌, sym, subst}
use Rattle.std.proofs.KnownBytes.{Consumes-trans}
use Rattle.std.specs.Io.KnownBytes.{Consumes}
use Rattle.tb_records.proofs.Pieces.{filled, put_mid-long}
use Rattle.tb_log.specs.declared.faults.LogFault.TheVariants.{Device}
use Rattle.tb_log.proofs.Taking.{breaks_since}
use Rattle.tb_log.proofs.inputs.fill.Goals as goal

pub loop-filled-preserved : goal.loop-filled-preserved
loop-filled-preserved g c =
    let old = c.loop-filled.buffer in
    let part = c.pull.new.buf in
    let bound = c.in-Ok.ensures.bound.0 in
    record {
      within = put_mid-long c.loop-filled.filled c.in-Ok.count old part c.loop-filled.invariant.within bound;
      bytes = subst (Consumes (g.S.Source.input c.args.source.now).left (g.S.Source.input c.pull.new.self).left)
          (sym (filled c.loop-filled.filled c.in-Ok.count _ old part c.loop-filled.invariant.within bound))
          (Consumes-trans _ _ _ _ _ c.loop-filled.invariant.bytes c.in-Ok.ensures.bytes.0);
      counted = c.in-Ok.ensures.counted.counted ∙ c.loop-filled.invariant.counted;
    }

pub returns-in-Err-clause-lost : goal.returns-in-Err-clause-lost
returns-in-Err-clause-lost g c = breaks_since Device _ _ _ c.loop-filled.invariant.counted c.in-Err.ensures.counted

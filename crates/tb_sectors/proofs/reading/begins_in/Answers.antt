use Rattle.std.proofs.Common.{◌∙◌, sym, arith}
use Rattle.tb_sectors.proofs.Readers.{begins_here, begins_later}
use Rattle.tb_sectors.proofs.reading.begins_in.Goals as goal

pub returns-then-stamp_of-gt0 : goal.returns-then-stamp_of-gt0
returns-then-stamp_of-gt0 c =
    sym (begins_here c.loop-rest.rest.now _ _ (omega arith) c.split_at.ensures.front c.stamp_of.ensures.begun c.if-stamp_of-gt0.true) ∙ c.loop-rest.invariant.same

pub loop-rest-preserved : goal.loop-rest-preserved
loop-rest-preserved c = record {
  same = begins_later c.loop-rest.rest.now _ _ _ (omega arith) c.split_at.ensures.front c.split_at.ensures.back c.stamp_of.ensures.begun c.if-stamp_of-gt0.false ∙ c.loop-rest.invariant.same;
  sectors = omega arith;
}

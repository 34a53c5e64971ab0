use Rattle.std.proofs.Common.{arith}
use Rattle.std.proofs.lemmas.Grind.{common_steps}
use Rattle.tb_sectors.proofs.Pieces.{further_step}
use Rattle.tb_sectors.proofs.encoding.push_further.Goals as goal

pub loop-rest-preserved : goal.loop-rest-preserved
loop-rest-preserved c =
    further_step c.loop-rest.out.items _ _ c.loop-rest.rest.now _ _ c.args.number _ _ c.args.closed (grind (arith, common_steps)) (grind (arith, common_steps)) c.split_at.ensures.front c.split_at.ensures.back
    c.is_empty-in-loop-rest.ensures c.in_ok-push_piece.ensures c.loop-rest.invariant

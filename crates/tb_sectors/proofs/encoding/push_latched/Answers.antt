use Rattle.std.proofs.Common.{arith}
use Rattle.std.proofs.lemmas.Grind.{common_steps}
use Rattle.tb_sectors.proofs.Pieces.{batch_built}
use Rattle.tb_sectors.proofs.encoding.push_latched.Goals as goal

pub returns : goal.returns
returns c =
    batch_built c.args.out.now.items _ _ c.args.kept.now c.args.bytes.now _ _ c.args.number c.args.begun _ _ _ c.args.closed _ (grind (arith, common_steps)) c.split_at.ensures.front c.split_at.ensures.back
    c.is_empty-last.ensures c.end_in-ends.ensures c.closes_at-closes.ensures c.in_ok-push_sector.ensures c.in_ok-push_further.ensures

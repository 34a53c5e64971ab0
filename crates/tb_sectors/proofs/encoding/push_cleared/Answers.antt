use Rattle.tb_sectors.proofs.Pieces.{cleared_built}
use Rattle.tb_sectors.proofs.encoding.push_cleared.Goals as goal

pub returns : goal.returns
returns c = cleared_built c.args.out.now.items _ _ c.args.kept.now c.args.number c.args.begun _ c.args.torn c.end_in-ends.ensures c.in_ok-push_sector.ensures c.in_ok-push_blanks.ensures

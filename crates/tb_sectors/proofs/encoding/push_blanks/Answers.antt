use Rattle.tb_sectors.proofs.Pieces.{one_blank, no_blank}
use Rattle.tb_sectors.proofs.encoding.push_blanks.Goals as goal

pub loop-added-init : goal.loop-added-init
loop-added-init c = no_blank c.args.out.now.items

pub loop-added-preserved : goal.loop-added-preserved
loop-added-preserved c = one_blank c.args.out.now.items c.loop-added.out.items _ c.loop-added._added c.loop-added.invariant c.in_ok-push_sector.ensures

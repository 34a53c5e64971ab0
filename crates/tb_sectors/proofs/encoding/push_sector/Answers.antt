use Rattle.std.proofs.Common.{refl}
use Rattle.tb_sectors.proofs.Pieces.{sector_built}
use Rattle.tb_sectors.proofs.encoding.push_sector.Goals as goal

pub returns : goal.returns
returns c =
    sector_built c.args.out.now.items c.args.kept.now c.args.bytes.now _ _ _ _ _ _ _ _ _ c.args.number c.args.begun _ c.args.ends _ c.args.closed refl
    c.numbers_of-numbers.ensures c.split_at.ensures.front c.sum_of.ensures c.latch_of.ensures c.end_of-end.ensures
    c.in_ok-extend_from_slice.ensures.items c.in_ok-extend_from_slice-2.ensures.items c.in_ok-extend_from_slice-3.ensures.items
    c.in_ok-extend_from_slice-4.ensures.items c.in_ok-extend_from_slice-5.ensures.items

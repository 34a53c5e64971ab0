use Rattle.std.proofs.Common.{◌∙◌, ap, arith, rules}
use Rattle.std.proofs.lemmas.Grind.{common_steps}
use Rattle.tb_sectors.specs.Stamped.{Taken, stamped, with_sector}
use Rattle.tb_sectors.proofs.Readers.{sector_taken, never}
use Rattle.tb_sectors.proofs.reading.SectorReader.take.Goals as goal

pub returns-clause-taken : goal.returns-clause-taken
returns-clause-taken c =
    let s = stamped c.args.sector.now in
    let was = c.self.inside in
    record {
      follows = first_of (search rules, grind (arith, common_steps));
      taken = λ _. sector_taken was.count was.number _ was.stream.items _ _ was.whole _ c.len-before.result _ was.closed _ s
          (omega arith) c.in_ok-extend_from_slice.ensures.items (c.bytes_of-bytes.ensures ∙ c.stamp_of-stamp.ensures.bytes)
          c.stamp_of-stamp.ensures.number c.stamp_of-stamp.ensures.ends c.stamp_of-stamp.ensures.closed (omega arith) c.whole_after-self-inside.ensures
          ∙ ap (λ (t : Taken). with_sector t s) c.self.view_is;
      other = never;
    }

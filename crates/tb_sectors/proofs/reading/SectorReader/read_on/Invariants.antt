use Rattle.std.proofs.Common.{◌≡◌, ◌+◌, ◌%◌, ◌<◌, ◌^◌, length}
use Rattle.tb_sectors.specs.Stamped.{read_on, file_sectors}
use Rattle.tb_sectors.proofs.reading.SectorReader.read_on.Given as goal

abbrev pub invariant-loop-rest : goal.invariant-loop-rest
invariant-loop-rest l = record {
  read : read_on l.self (file_sectors l.rest) ≡ read_on l.fn.self (file_sectors l.fn.file);
  sectors : length l.rest % 512 ≡ 0;
  near : l.self.count + length l.rest < 2 ^ 62;
}

abbrev pub decreases-loop-rest : goal.decreases-loop-rest
decreases-loop-rest l = length l.rest

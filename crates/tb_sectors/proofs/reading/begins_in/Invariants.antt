use Rattle.std.proofs.Common.{◌≡◌, ◌%◌, length}
use Rattle.tb_sectors.specs.Stamped.{begins_in, file_sectors}
use Rattle.tb_sectors.proofs.reading.begins_in.Given as goal

abbrev pub invariant-loop-rest : goal.invariant-loop-rest
invariant-loop-rest l = record {
  same : begins_in (file_sectors l.rest) ≡ begins_in (file_sectors l.fn.file);
  sectors : length l.rest % 512 ≡ 0;
}

abbrev pub decreases-loop-rest : goal.decreases-loop-rest
decreases-loop-rest l = length l.rest

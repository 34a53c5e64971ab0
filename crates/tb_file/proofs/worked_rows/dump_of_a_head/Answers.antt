use Rattle.std.proofs.Common.{refl}
use Rattle.tb_records.specs.DumpBytes.{head_bytes}
use Rattle.tb_records.specs.Numbers.{le_bytes}
use Rattle.tb_file_journal.specs.Checksum.{bit_on, byte_on}
use Rattle.tb_file.proofs.worked_rows.dump_of_a_head.Goals as goal

pub returns : goal.returns
unfolding byte_on bit_on head_bytes le_bytes
returns c = refl

use Rattle.std.proofs.Common.{inr, refl}
use Rattle.tb_file_journal.specs.Checksum.{bit_on, byte_on}
use Rattle.tb_file.proofs.worked_rows.head_alone.Goals as goal

pub returns-clause-no_entry : goal.returns-clause-no_entry
unfolding byte_on bit_on
returns-clause-no_entry c = inr refl

pub returns-clause-rules : goal.returns-clause-rules
unfolding byte_on bit_on
returns-clause-rules c = refl

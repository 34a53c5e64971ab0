use Rattle.std.proofs.Common.{arith}
use Rattle.std.proofs.lemmas.List.{take_all}
use Rattle.tb_records.specs.DumpBytes.{numbers_bytes}
use Rattle.tb_records.proofs.dumps.bytes_of_numbers.Goals as goal

pub returns : goal.returns
unfolding numbers_bytes
returns c = cc (take_all 16 c.put_u64-2.new.out (omega arith))

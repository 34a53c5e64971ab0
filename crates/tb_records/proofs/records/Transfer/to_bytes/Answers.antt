use Rattle.std.proofs.Common.{◌∙◌, sym, take_all, arith}
use Rattle.tb_records.proofs.records.Transfer.to_bytes.Goals as goal

pub returns-clause-bytes : goal.returns-clause-bytes
returns-clause-bytes c = sym (take_all 128 c.write.new.out (omega (arith, c.write.array_long))) ∙ c.write.ensures.spelled

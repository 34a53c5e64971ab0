use Rattle.std.proofs.Common.{arith}
use Rattle.std.proofs.lemmas.List.{take_all}
use Rattle.tb_records.specs.ReplyFrames.{reply_header_bytes}
use Rattle.tb_records.proofs.ZeroBytes.{zeros_2, zeros_4}
use Rattle.tb_records.proofs.writing.header.Goals as goal

pub returns-clause-bytes : goal.returns-clause-bytes
unfolding reply_header_bytes
returns-clause-bytes c = cc (take_all 48 c.put_u32-3.new.out (omega arith), zeros_2, zeros_4)

use Rattle.std.proofs.Common.{arith}
use Rattle.tb_records.specs.TransferResults.{transfer_results, transfer_result_code}
use Rattle.tb_records.proofs.Found.{only_numbered}
use Rattle.tb_records.proofs.transfer_results.CreateTransferResult.from_code.Goals as goal

pub returns : goal.returns
unfolding transfer_results
returns c x = rw c.first_verdict_numbered.ensures (only_numbered transfer_results transfer_result_code (λ x. grind arith) c.args.code x)

use Rattle.std.proofs.Common.{arith}
use Rattle.tb_records.specs.AccountResults.{account_results, account_result_code}
use Rattle.tb_records.proofs.Found.{only_numbered}
use Rattle.tb_records.proofs.account_results.CreateAccountResult.from_code.Goals as goal

pub returns : goal.returns
unfolding account_results
returns c x = rw c.first_verdict_numbered.ensures (only_numbered account_results account_result_code (λ x. grind arith) c.args.code x)

use Rattle.std.proofs.Common.{arith}
use Rattle.std.proofs.lemmas.Bool.Decides.{nat_tests}
use Rattle.tb_records.specs.Frames.{header_fault}
use Rattle.tb_records.proofs.headers.header_fields.Goals as goal

pub returns-then-client-eq0 : goal.returns-then-client-eq0
unfolding header_fault
returns-then-client-eq0 c = grind (arith, nat_tests)

pub returns-in_default : goal.returns-in_default
unfolding header_fault
returns-in_default c = grind (arith, nat_tests)

pub returns-in_err-check_numbers : goal.returns-in_err-check_numbers
unfolding header_fault
returns-in_err-check_numbers c = grind (arith, nat_tests)

pub returns-in_err-count : goal.returns-in_err-count
unfolding header_fault
returns-in_err-count c = grind (arith, nat_tests)

pub returns : goal.returns
unfolding header_fault
returns c = grind (arith, nat_tests)

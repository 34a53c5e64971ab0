use Rattle.std.proofs.Common.{arith}
use Rattle.tb_file_journal.proofs.Waiting.{all_fit}
use Rattle.tb_file_journal.proofs.batches.numbers_of.Goals as goal

pub returns-clause-fits : goal.returns-clause-fits
returns-clause-fits c = all_fit c.args.content.now c.requires (λ i. omega (arith, c.type_inv.content i))

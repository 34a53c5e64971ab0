use Rattle.tb_file.proofs.Longest.{longest}
use Rattle.tb_file.proofs.laws.salvages_most.Goals as goal

pub returns : goal.returns
returns c = longest

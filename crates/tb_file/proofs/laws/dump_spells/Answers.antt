use Rattle.tb_file.proofs.Spelled.{dump_is_of_history}
use Rattle.tb_file.proofs.laws.dump_spells.Goals as goal

pub returns : goal.returns
returns c = dump_is_of_history

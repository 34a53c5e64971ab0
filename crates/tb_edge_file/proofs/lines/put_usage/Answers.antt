use Rattle.tb_edge_file.proofs.Passing.{wrong_sent}
use Rattle.tb_edge_file.proofs.lines.put_usage.Goals as goal

pub returns : goal.returns
returns g c = wrong_sent _ _ _ _ _ _ _ c.first_words-shown.ensures c.text.ensures c.put_wrong.ensures

use Rattle.tb_file_journal.proofs.Showing.{shown_prefix}
use Rattle.tb_file_journal.proofs.laws.shown_is_a_prefix.Goals as goal

pub returns : goal.returns
returns c = shown_prefix

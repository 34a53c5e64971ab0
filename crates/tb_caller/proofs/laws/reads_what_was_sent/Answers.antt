use Rattle.tb_caller.proofs.Streams.{reads_what_was_sent}
use Rattle.tb_caller.proofs.laws.reads_what_was_sent.Goals as goal

pub returns : goal.returns
returns c = reads_what_was_sent

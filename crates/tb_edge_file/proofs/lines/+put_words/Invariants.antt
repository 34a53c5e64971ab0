use Rattle.std.proofs.Common.{length}
use Rattle.tb_edge_file.proofs.lines.+put_words.Given as goal

abbrev pub decreases-put_words : goal.decreases-put_words
decreases-put_words g l = length l.words.now

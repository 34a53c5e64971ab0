use Rattle.std.proofs.Common.{string_bytes, sym}
use Rattle.std.proofs.lemmas.List.{take-map}
use Rattle.tb_edge_file.proofs.lines.first_words.Goals as goal

pub returns-then-count-words : goal.returns-then-count-words
returns-then-count-words c = sym (take-map string_bytes c.args.count c.args.words.now)

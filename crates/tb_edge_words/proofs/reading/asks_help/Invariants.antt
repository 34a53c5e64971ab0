use Rattle.std.proofs.Common.{◌≡◌, drop, map}
use Rattle.std.specs.Prelude.{string_bytes}
use Rattle.std.specs.List.{list_any}
use Rattle.tb_edge_words.specs.Words.{is_help}
use Rattle.tb_edge_words.proofs.reading.asks_help.Given as goal

abbrev pub invariant-loop-word : goal.invariant-loop-word
invariant-loop-word l = record {
  value : list_any is_help (map string_bytes (drop l.word-index l.words)) ≡ list_any is_help (map string_bytes l.words);
}

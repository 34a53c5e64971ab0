use Rattle.std.proofs.Common.{◌≡◌, ◌≤◌, drop, length, map}
use Rattle.std.specs.Prelude.{string_bytes}
use Rattle.tb_edge_words.specs.Words.{reads, first_reader}
use Rattle.tb_edge_words.proofs.reading.read_from.Given as goal

abbrev pub invariant-loop-at : goal.invariant-loop-at
invariant-loop-at l = record {
  value : reads l.form l.reader l.at (map string_bytes (drop l.at l.words)) ≡ reads l.form first_reader l.from (map string_bytes (drop l.from l.words));
  within : l.at ≤ length l.words;
}

use Rattle.std.proofs.Common.{◌≡◌, ◌≤◌, drop}
use Rattle.tb_edge_commands.specs.Forms.{number_from, number_of, within}
use Rattle.tb_edge_commands.proofs.arguments.number_up_to.Given as goal

abbrev pub invariant-loop-byte : goal.invariant-loop-byte
invariant-loop-byte l = record {
  value : within 0 l.high (number_from l.n (drop l.byte-index l.word)) ≡ within 0 l.high (number_of l.word);
  small : l.n ≤ l.high;
}

use Rattle.std.proofs.Common.{map}
use Rattle.std.specs.Str.{encode_utf8_all}
use Rattle.tb_records.specs.Transport.{Sent}
use Rattle.tb_edge_file.specs.Printable.{printable_char}
use Rattle.tb_edge_file.proofs.printable.put_printable.Given as goal

-- the characters so far, as they are shown
abbrev pub invariant-loop-character : goal.invariant-loop-character
invariant-loop-character g l = Sent (encode_utf8_all (map printable_char l.yielded)) (g.E.Sink.output l.initial.faults) (g.E.Sink.output l.faults)

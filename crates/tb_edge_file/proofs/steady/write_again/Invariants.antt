use Rattle.std.specs.Io.KnownBytes.{Keeps}
use Rattle.tb_edge_file.proofs.steady.write_again.Given as goal

-- a call that failed has written nothing
abbrev pub invariant-loop : goal.invariant-loop
invariant-loop g l = Keeps (g.W.Write.contents l.initial.writer) (g.W.Write.contents l.writer)

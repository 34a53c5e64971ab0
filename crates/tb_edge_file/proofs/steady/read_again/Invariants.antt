use Rattle.std.specs.Io.KnownBytes.{Keeps}
use Rattle.tb_edge_file.proofs.steady.read_again.Given as goal

-- a call that failed has read nothing
abbrev pub invariant-loop : goal.invariant-loop
invariant-loop g l = Keeps (g.R.Read.remaining l.initial.reader) (g.R.Read.remaining l.reader)

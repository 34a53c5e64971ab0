use Rattle.std.proofs.Common.{append_assoc}
use Rattle.std.proofs.Output.{has_written_of_eq}
use Rattle.tb_edge_file.proofs.copies.CopiedDisplay.fmt.Goals as goal

pub returns-in-Some-clause-writes : goal.returns-in-Some-clause-writes
returns-in-Some-clause-writes g c =
    rw c.in-Some.is (λ plain ok. has_written_of_eq _ _ _ _ _ (simp append_assoc) (c.write-in-Some.ensures.writes plain ok))

pub returns-in-None-clause-writes : goal.returns-in-None-clause-writes
returns-in-None-clause-writes g c =
    rw (c.in-None.is, ← c.behind_text-what.ensures) (λ plain ok. c.write.ensures.writes plain ok)

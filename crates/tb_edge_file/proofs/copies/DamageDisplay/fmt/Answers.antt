use Rattle.std.proofs.Common.{append_assoc}
use Rattle.std.proofs.Output.{has_written_of_eq}
use Rattle.tb_edge_file.proofs.copies.DamageDisplay.fmt.Goals as goal

pub returns-in-Torn-clause-writes : goal.returns-in-Torn-clause-writes
returns-in-Torn-clause-writes g c =
    rw c.in-Torn.is (λ plain ok. has_written_of_eq _ _ _ _ _ (simp append_assoc) (c.write-in-Torn.ensures.writes plain ok))

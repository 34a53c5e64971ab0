use Rattle.std.proofs.Common.{append_assoc}
use Rattle.std.proofs.Output.{has_written_of_eq}
use Rattle.tb_edge_file.proofs.summaries.SummaryDisplay.fmt.Goals as goal

pub returns-clause-writes : goal.returns-clause-writes
returns-clause-writes g c =
    rw (← c.profile_number-profile.ensures, ← c.get-clients_max.ensures.value, ← c.behind_text-what.ensures, ← c.replayed_text-note.ensures)
    (λ plain ok. has_written_of_eq _ _ _ _ _ (simp append_assoc) (c.write.ensures.writes plain ok))

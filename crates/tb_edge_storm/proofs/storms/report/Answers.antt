use Rattle.std.proofs.Common.{refl}
use Rattle.tb_edge_storm.proofs.storms.report.Goals as goal

pub returns-clause-learnt : goal.returns-clause-learnt
returns-clause-learnt g c = record { number_is = refl; caller_is = refl; line_is = refl; fault_is = refl; seen = c.totals_of-found.ensures.begins; others_are = refl }

use Rattle.std.proofs.Common.{arith, refl}
use Rattle.std.proofs.lemmas.Bool.{le-leb}
use Rattle.tb_edge_file.proofs.reports.Reported.report.Goals as goal

pub returns-then-at-self-clause-reports : goal.returns-then-at-self-clause-reports
returns-then-at-self-clause-reports g c =
    rw (le-leb c.args.self.now.due c.args.at (omega arith)) (refl, refl, c.saturating_add-self.ensures, rw c.as_str.ensures.value at c.print_read.ensures)

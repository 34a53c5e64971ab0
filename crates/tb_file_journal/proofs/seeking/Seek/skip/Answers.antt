use Rattle.std.proofs.Common.{◌+◌, List, ℕ, ◌∙◌, ap, drop, min, length, subst, sym}
use Rattle.tb_file_journal.specs.Scans.{IsAhead}
use Rattle.tb_file_journal.specs.Seeking.{IsSeeking}
use Rattle.tb_file_journal.proofs.Sought.{skipped_some}
use Rattle.tb_file_journal.proofs.seeking.Seek.skip.Goals as goal

pub returns-clause-seeks : goal.returns-clause-seeks
returns-clause-seeks c file seeking =
    let old = subst (IsSeeking file) (sym c.self.view_is) seeking in
    let ahead = c.self.inside.window.ahead in
    let few = c.min.ensures ∙ ap (λ (l : List ℕ). min c.args.n (length l)) c.ahead.ensures in
    let is = c.take.ensures.ahead ∙ ap (λ (k : ℕ). drop k ahead) few in
    subst (IsAhead (c.self.inside.at + c.args.n) file) (sym is) (skipped_some c.self.inside.at file ahead old c.args.n)

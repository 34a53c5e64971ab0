use Rattle.std.proofs.Common.{List, ℕ, arith, length, refl, ap, nat_eq, sym, ◌∙◌}
use Rattle.std.specs.List.{starts_with}
use Rattle.tb_file_journal.specs.Contents.{magic}
use Rattle.tb_file_journal.proofs.ScanSteps.{first_scan, foreign}
use Rattle.tb_file_journal.proofs.scans.begin.Goals as goal

pub returns-then-not-starts_with : goal.returns-then-not-starts_with
returns-then-not-starts_with c file has =
    foreign file c.args.window.ahead has (ap (λ (l : List ℕ). starts_with nat_eq l magic) (sym c.ahead.ensures) ∙ sym c.starts_with.ensures.value ∙ c.if-not-starts_with.true)

pub take-requires : goal.take-requires
take-requires c = omega (arith, c.if-not-starts_with.ensures.bound refl, ap length c.ahead.ensures)

pub returns : goal.returns
returns c file has =
    first_scan file c.args.window.ahead c.take.new.self.taken c.take.new.self.ahead has
    (ap (λ (l : List ℕ). starts_with nat_eq l magic) (sym c.ahead.ensures) ∙ sym c.starts_with.ensures.value ∙ c.if-not-starts_with.false)
    (omega (arith, c.if-not-starts_with.ensures.bound refl, ap length c.ahead.ensures)) c.take.ensures.ahead

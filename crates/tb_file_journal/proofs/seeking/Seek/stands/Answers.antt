use Rattle.std.proofs.Common.{◌+◌, ◌≤◌, drop, length, List, ℕ, subst, sym, take}
use Rattle.tb_file_journal.specs.Seeking.{IsSeeking, IsSummed}
use Rattle.tb_file_journal.proofs.Sought.{told}
use Rattle.tb_file_journal.proofs.seeking.Seek.stands.Goals as goal

pub returns-clause-stands : goal.returns-clause-stands
returns-clause-stands g c file held seeking =
    let old = subst (IsSeeking file) (sym c.self.view_is) seeking in
    let ahead = c.fill.new.self.ahead in
    let len = c.args.len in
    told c.is_summed.result c.self.inside.at len file ahead (c.in_ok-fill.ensures.ahead file held old)
    (λ is. subst (λ (l : List ℕ). IsSummed (take len (drop 4 l)) l) c.ahead.ensures (c.is_summed.ensures.yes is))
    (λ is. subst (λ (l : List ℕ). 4 + len ≤ length l) c.ahead.ensures (c.is_summed.ensures.all is))
    (λ is bytes long summed. c.is_summed.ensures.no is bytes long (subst (IsSummed bytes) (sym c.ahead.ensures) summed))

pub returns-clause-within : goal.returns-clause-within
returns-clause-within g c is = subst (λ (l : List ℕ). 4 + c.args.len ≤ length l) c.ahead.ensures (c.is_summed.ensures.all is)

use Rattle.tb_ledger.proofs.Common.{rules}
use Rattle.tb_ledger.proofs.Passing.{settled_in}
use Rattle.tb_ledger.proofs.kinds.resolving.settle_accounts.Goals as goal

pub returns-clause-settled : goal.returns-clause-settled
returns-clause-settled g c =
    let ch = c.in-Some.ensures.changed in
    let called = ch.called in
    settled_in c.args.p.now c.args.r.now c.args.undo_log.now _ c.args.accounts.now.items c.update_two.new.self.items ch.row ch.other ch.left ch.other_left c.in-Some.result c.requires.apart ch.found ch.other_found (c.requires.can_debit ch.row ch.found) (c.requires.can_credit ch.other ch.other_found) (search rules) ch.written

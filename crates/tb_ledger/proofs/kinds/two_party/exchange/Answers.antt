use Rattle.tb_ledger.proofs.Common.{rules}
use Rattle.tb_ledger.proofs.Passing.{passed_in}
use Rattle.tb_ledger.proofs.kinds.two_party.exchange.Goals as goal

pub returns-in-Some-clause-exchanged : goal.returns-in-Some-clause-exchanged
returns-in-Some-clause-exchanged g c =
    let ch = c.in-Some.ensures.changed in
    let called = ch.called in
    passed_in c.args.t.now c.args.time c.args.undo_log.now _ c.args.accounts.now.items c.update_two.new.self.items ch.row ch.other ch.left ch.other_left c.in-Some.result c.requires ch.found ch.other_found (search rules) ch.written

use Rattle.tb_ledger.proofs.Common.{arith}
use Rattle.tb_ledger.proofs.AbsentKeys.{unlike-new, unlike-blanked}
use Rattle.tb_ledger.proofs.tables.absent_ids.AbsentIds.admit.Goals as goal

pub returns-clause-here : goal.returns-clause-here
returns-clause-here c =
    let is = c.max-self.ensures in
    rw c.without_id-self.ensures (record { at_most = omega (arith, is); unlike = λ sought. unlike-new c.args.id c.args.self.now.absent })

pub returns-clause-others : goal.returns-clause-others
returns-clause-others c = λ k may.
    let is = c.max-self.ensures in
    rw c.without_id-self.ensures (record { at_most = omega (arith, is, may.at_most); unlike = λ sought. unlike-blanked k c.args.id c.args.self.now.absent (may.unlike sought) })

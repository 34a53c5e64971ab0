use Rattle.tb_ledger.proofs.Common.{◌==◌, is_some, sym, ap, ◌∙◌}
use Rattle.tb_ledger.proofs.VerdictLaws.{any-found, some-copied}
use Rattle.tb_ledger.proofs.kinds.transfer.failed_before.Goals as goal

pub returns-then-rows : goal.returns-then-rows
returns-then-rows g c =
    let keeps = c.if-rows.true in
    rw keeps (c.is_some.ensures ∙ sym (some-copied c.get.result) ∙ ap is_some c.get.ensures ∙ sym (any-found (λ id. id == c.args.t.now.id) c.args.rows.now.failed.items))

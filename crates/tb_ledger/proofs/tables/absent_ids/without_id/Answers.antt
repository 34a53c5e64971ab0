use Rattle.tb_ledger.proofs.Common.{sym, ap, without_id}
use Rattle.tb_ledger.proofs.AbsentKeys.{eight}
use Rattle.tb_ledger.proofs.tables.absent_ids.without_id.Goals as goal

pub returns : goal.returns
returns c =
    rw (c.unless.ensures, c.unless-2.ensures, c.unless-3.ensures, c.unless-4.ensures, c.unless-5.ensures, c.unless-6.ensures, c.unless-7.ensures, c.unless-8.ensures)
    (ap (λ xs. without_id c.args.id xs) (sym (eight 0 c.args.ids.now c.told-ids)))

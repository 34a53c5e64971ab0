use Rattle.tb_ledger.proofs.Common.{sym, subst, ap, ◌∙◌, option_map, account_result_code, Judges, books_in, row_now}
use Rattle.tb_ledger.proofs.VerdictLaws.{account_stands, account_there_judged, account_new_code}
use Rattle.tb_ledger.proofs.kinds.account.judge_account.Goals as goal

pub returns-in-Some : goal.returns-in-Some
returns-in-Some g c =
    let a = c.args.a.now in
    account_there_judged (books_in c.args.rows.now) a (row_now c.in-Some.e.now) c.account_there.result c.in_ok-account_own.ensures
    (account_stands c.args.rows.now c.requires a.id ∙ ap (option_map row_now) (sym c.in-Some.ensures)) c.account_there.ensures

pub returns-in-None : goal.returns-in-None
returns-in-None g c =
    let a = c.args.a.now in
    subst (Judges account_result_code c.account_new.result)
    (account_new_code (books_in c.args.rows.now) a c.in_ok-account_own.ensures
    (account_stands c.args.rows.now c.requires a.id ∙ ap (option_map row_now) (sym c.in-None.ensures))) c.account_new.ensures

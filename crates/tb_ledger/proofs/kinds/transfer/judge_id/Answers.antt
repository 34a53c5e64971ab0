use Rattle.std.specs.Prelude.{OnOk}
use Rattle.tb_ledger.proofs.Common.{Result, Ok, Err, Some, sym, subst, ap, ◌∙◌, option_map, transfer_result_code, Judges, books_in, filled, first_of, transfer_exists_tests}
use Rattle.tb_ledger.proofs.VerdictLaws.{transfer_stands, id_there_judged, id_free}
use Rattle.tb_ledger.proofs.kinds.transfer.judge_id.Goals as goal

-- what holds anyway
on_ok : {X E P : Type 0} (result : Result X E) → P → OnOk result P
on_ok (Ok _) its = its
on_ok (Err _) its = tt

pub returns-in-None-clause-plain : goal.returns-in-None-clause-plain
returns-in-None-clause-plain g c = on_ok c.judge_failed.result c.in_ok-transfer_own.ensures.plain

pub returns-in-Some-clause-judged : goal.returns-in-Some-clause-judged
returns-in-Some-clause-judged g c =
    let t = c.args.t.now in
    id_there_judged (books_in c.args.rows.now) t c.in-Some.e.now.recorded c.repeated.result c.in_ok-transfer_own.ensures.judged
    (transfer_stands c.args.rows.now t.id ∙ ap (option_map (λ t. t.recorded)) (sym c.in-Some.ensures))
    (c.repeated.ensures ∙ ap (λ e. first_of (transfer_exists_tests (Some e) (filled (books_in c.args.rows.now) t))) c.recorded.ensures)

pub returns-in-None-clause-judged : goal.returns-in-None-clause-judged
returns-in-None-clause-judged g c =
    let t = c.args.t.now in
    subst (Judges transfer_result_code c.judge_failed.result)
    (id_free (books_in c.args.rows.now) t c.in_ok-transfer_own.ensures.judged
    (transfer_stands c.args.rows.now t.id ∙ ap (option_map (λ t. t.recorded)) (sym c.in-None.ensures))) c.judge_failed.ensures

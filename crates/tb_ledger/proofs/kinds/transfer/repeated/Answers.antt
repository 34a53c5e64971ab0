use Rattle.tb_ledger.proofs.Common.{sym, ap, ◌∙◌, option_map, books_in, filled_from, first_of, transfer_exists_tests, Some}
use Rattle.tb_ledger.proofs.VerdictLaws.{transfer_stands, filled_missing}
use Rattle.tb_ledger.proofs.Accepted.{filled_found}
use Rattle.tb_ledger.proofs.kinds.transfer.repeated.Goals as goal

pub returns-in-Some : goal.returns-in-Some
returns-in-Some g c =
    let B = books_in c.args.rows.now in
    let t = c.args.t.now in
    let filled_is = filled_found B t c.in-Some.p.now.recorded (sym c.if-resolving.ensures) (transfer_stands c.args.rows.now t.pending_id ∙ ap (option_map (λ p. p.recorded)) (sym c.in-Some.ensures)) in
    c.transfer_there.ensures ∙ ap (λ f. first_of (transfer_exists_tests (Some c.args.e.now) f)) (c.filled.ensures ∙ ap (λ p. filled_from p t) c.recorded.ensures ∙ sym filled_is)

pub returns-in-None : goal.returns-in-None
returns-in-None g c =
    let B = books_in c.args.rows.now in
    let t = c.args.t.now in
    let filled_is = filled_missing B t (sym c.if-resolving.ensures) (transfer_stands c.args.rows.now t.pending_id ∙ ap (option_map (λ p. p.recorded)) (sym c.in-None.ensures)) in
    c.transfer_there-in-None.ensures ∙ ap (λ f. first_of (transfer_exists_tests (Some c.args.e.now) f)) (sym filled_is)

use Rattle.tb_ledger.proofs.Common.{◌≡◌, ◌≢◌, refl, subst, sym, ap, ◌∙◌, option_map, arith, transfer_result_code, books_in, FoundPending, closed_code, filled_from, first_of, named_tests, resolve_code}
use Rattle.tb_ledger.proofs.Accepted.{filled_found}
use Rattle.tb_ledger.proofs.Refusals.{err_handed_on}
use Rattle.tb_ledger.proofs.VerdictLaws.{transfer_stands, resolve_missing, resolve_found, named_row, pending_fits, pair_first, pair_second}
use Rattle.tb_ledger.proofs.kinds.resolving.judge_resolving.Goals as goal

pub returns-in-None-clause-refused : goal.returns-in-None-clause-refused
returns-in-None-clause-refused g c =
    let t = c.args.t.now in
    let refused : 25 ≢ 0 = omega arith in (
      resolve_missing (books_in c.args.rows.now) t c.in_ok-resolve_own.ensures (transfer_stands c.args.rows.now t.pending_id ∙ ap (option_map (λ p. p.recorded)) (sym c.in-None.ensures)),
      refused,
    )

pub returns-in_err-resolve_named-in-Some-clause-refused : goal.returns-in_err-resolve_named-in-Some-clause-refused
returns-in_err-resolve_named-in-Some-clause-refused g c =
    let rows = c.args.rows.now in
    let B = books_in rows in
    let t = c.args.t.now in
    let p = c.in-Some.p.now in
    let refusal = c.in_err-resolve_named-in-Some.field-0.0 in
    let judged = c.in_err-resolve_named-in-Some.ensures in
    let named : transfer_result_code refusal ≡ first_of (named_tests t p.recorded p.state) = sym judged.0 ∙ ap (λ q. first_of (named_tests t q c.state.result)) c.recorded-pending.ensures ∙ ap (λ s. first_of (named_tests t p.recorded s)) c.state.ensures in
    let found = transfer_stands rows t.pending_id ∙ ap (option_map (λ p. p.recorded)) (sym c.in-Some.ensures) in
    let code = resolve_found B t p.recorded c.in_ok-resolve_own.ensures found
    ∙ named_row rows c.requires.kept t.pending_id p (sym c.in-Some.ensures) t (transfer_result_code refusal) (closed_code B t p.recorded) named refl
    ∙ pair_first (transfer_result_code refusal) (closed_code B t p.recorded) judged.1 in
    err_handed_on (λ y. (resolve_code B t ≡ transfer_result_code y) × (transfer_result_code y ≢ 0)) c.from_residual-in_err-resolve_named-in-Some.result refusal c.from_residual-in_err-resolve_named-in-Some.ensures.1 (code, judged.1)

pub returns-in_ok-resolve_named-in-Some-clause-left : goal.returns-in_ok-resolve_named-in-Some-clause-left
returns-in_ok-resolve_named-in-Some-clause-left g c =
    let rows = c.args.rows.now in
    let B = books_in rows in
    let t = c.args.t.now in
    let p = c.in-Some.p.now in
    let named : 0 ≡ first_of (named_tests t p.recorded p.state) = sym c.in_ok-resolve_named-in-Some.ensures ∙ ap (λ q. first_of (named_tests t q c.state.result)) c.recorded-pending.ensures ∙ ap (λ s. first_of (named_tests t p.recorded s)) c.state.ensures in
    let found = transfer_stands rows t.pending_id ∙ ap (option_map (λ p. p.recorded)) (sym c.in-Some.ensures) in
    resolve_found B t p.recorded c.in_ok-resolve_own.ensures found
    ∙ named_row rows c.requires.kept t.pending_id p (sym c.in-Some.ensures) t 0 (closed_code B t p.recorded) named refl
    ∙ pair_second 0 (closed_code B t p.recorded) refl

pub returns-in_ok-resolve_named-in-Some-clause-filled : goal.returns-in_ok-resolve_named-in-Some-clause-filled
returns-in_ok-resolve_named-in-Some-clause-filled g c =
    let t = c.args.t.now in
    let found = transfer_stands c.args.rows.now t.pending_id ∙ ap (option_map (λ p. p.recorded)) (sym c.in-Some.ensures) in
    c.filled.ensures ∙ ap (λ p. filled_from p t) c.recorded-pending.ensures ∙ sym (filled_found (books_in c.args.rows.now) t c.in-Some.p.now.recorded c.requires.resolving found)

pub returns-in_ok-resolve_named-in-Some-clause-found : goal.returns-in_ok-resolve_named-in-Some-clause-found
returns-in_ok-resolve_named-in-Some-clause-found g c =
    let t = c.args.t.now in
    let p = c.in-Some.p.now in
    let named : first_of (named_tests t p.recorded p.state) ≡ 0 = sym (ap (λ q. first_of (named_tests t q c.state.result)) c.recorded-pending.ensures ∙ ap (λ s. first_of (named_tests t p.recorded s)) c.state.ensures) ∙ c.in_ok-resolve_named-in-Some.ensures in
    let fits = pending_fits c.args.rows.now c.requires.kept p t (sym c.in-Some.ensures) c.requires.resolving c.in_ok-resolve_own.ensures named in
    subst (FoundPending (books_in c.args.rows.now)) (sym (c.filled.ensures ∙ ap (λ p. filled_from p t) c.recorded-pending.ensures)) fits

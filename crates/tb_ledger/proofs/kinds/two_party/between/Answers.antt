use Rattle.tb_ledger.proofs.Common.{◌≡◌, ◌≢◌, ℕ, Result, Ok, Err, sym, subst, ◌∙◌, IsErrAnd, CreateTransferResult, transfer_result_code, Judges, row_now, first_of, pair_tests, amount_tests, balanced_amount}
use Rattle.tb_ledger.proofs.VerdictLaws.{pair_first, pair_second}
use Rattle.tb_ledger.proofs.kinds.two_party.between.Goals as goal

-- a refusal that is handed on
handed_on : {X : Type 0} (result : Result X CreateTransferResult) (refusal : CreateTransferResult) (code : ℕ) → IsErrAnd result (λ y. y ≡ refusal) → (code ≡ transfer_result_code refusal) × (transfer_result_code refusal ≢ 0) → Judges transfer_result_code result code
handed_on (Ok x) refusal code is judged = absurd is
handed_on (Err y) refusal code is judged = subst (λ y. (code ≡ transfer_result_code y) × (transfer_result_code y ≢ 0)) (sym is) judged

pub returns-in_err-pair-clause-judged : goal.returns-in_err-pair-clause-judged
returns-in_err-pair-clause-judged c =
    let d = row_now c.args.d.now in
    let e = row_now c.args.c.now in
    let t = c.args.t.now in
    let its = c.in_err-pair.ensures in
    let code = pair_first (first_of (pair_tests d e t)) (first_of (amount_tests d e t (balanced_amount d e t) c.args.time)) (λ none. its.1 (sym its.0 ∙ none)) ∙ its.0 in
    handed_on c.from_residual.result c.in_err-pair.field-0.0 _ c.from_residual.ensures.1 (code, its.1)

pub returns-in_err-amounts-clause-judged : goal.returns-in_err-amounts-clause-judged
returns-in_err-amounts-clause-judged c =
    let d = row_now c.args.d.now in
    let e = row_now c.args.c.now in
    let t = c.args.t.now in
    let refusal = c.in_err-amounts.field-0.0 in
    let its = c.in_err-amounts.ensures in
    let tested = subst (λ n. first_of (amount_tests d e t n c.args.time) ≡ transfer_result_code refusal) c.balanced-amount.ensures its.0 in
    let code = pair_second (first_of (pair_tests d e t)) (first_of (amount_tests d e t (balanced_amount d e t) c.args.time)) c.in_ok-pair.ensures ∙ tested in
    handed_on c.from_residual-in_err-amounts.result refusal _ c.from_residual-in_err-amounts.ensures.1 (code, its.1)

pub returns-clause-judged : goal.returns-clause-judged
returns-clause-judged c =
    let d = row_now c.args.d.now in
    let e = row_now c.args.c.now in
    let t = c.args.t.now in
    let tested = subst (λ n. first_of (amount_tests d e t n c.args.time) ≡ 0) c.balanced-amount.ensures c.in_ok-amounts.ensures in
    pair_second (first_of (pair_tests d e t)) (first_of (amount_tests d e t (balanced_amount d e t) c.args.time)) c.in_ok-pair.ensures ∙ tested

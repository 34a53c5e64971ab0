use Rattle.tb_ledger.proofs.Common.{◌≡◌, ℕ, ◌+◌, ◌≤◌, [], ◌∷◌, Some, refl, rules, ltb-false, Account, Transfer, AMOUNT_MAX, row_now, first_of, first_code, pair_tests, pair_code, amount_tests, balanced_amount}
use Rattle.tb_ledger.proofs.Accepted.{fail, none_fails}
use Rattle.tb_ledger.proofs.kinds.two_party.exchange_rows.Goals as goal

-- both sides can take the amount of a transfer that is accepted
both_fit : (d c : Account) (t : Transfer) (time : ℕ) → pair_code (Some d) (Some c) t time ≡ 0 → (d.debits_pending + d.debits_posted + balanced_amount d c t ≤ AMOUNT_MAX) × (c.credits_pending + c.credits_posted + balanced_amount d c t ≤ AMOUNT_MAX)
both_fit d c t time ok = by (balanced_amount d c t) ok
  where
    by : (amount : ℕ) → first_code (first_of (pair_tests d c t) ∷ first_of (amount_tests d c t amount time) ∷ []) ≡ 0 → (d.debits_pending + d.debits_posted + amount ≤ AMOUNT_MAX) × (c.credits_pending + c.credits_posted + amount ≤ AMOUNT_MAX)
    by amount is =
        let tests = fail (amount_tests d c t amount time) refl (none_fails (first_of (pair_tests d c t) ∷ first_of (amount_tests d c t amount time) ∷ []) is).1.0 in (
          ltb-false AMOUNT_MAX (d.debits_pending + d.debits_posted + amount) tests.1.1.1.1.0,
          ltb-false AMOUNT_MAX (c.credits_pending + c.credits_posted + amount) tests.1.1.1.1.1.0,
        )

pub gain_side-requires : goal.gain_side-requires
gain_side-requires g c =
    let its = c.in_ok-amount.ensures in
    rw (c.debits.ensures, its.amount) (both_fit (row_now c.args.debit.now) (row_now c.args.credit.now) c.args.t.now c.args.time its.judged).0

pub gain_side-requires-2 : goal.gain_side-requires-2
gain_side-requires-2 g c =
    let its = c.in_ok-amount.ensures in
    rw (c.credits.ensures, its.amount) (both_fit (row_now c.args.debit.now) (row_now c.args.credit.now) c.args.t.now c.args.time its.judged).1

pub returns-clause-judged : goal.returns-clause-judged
returns-clause-judged g c = search rules

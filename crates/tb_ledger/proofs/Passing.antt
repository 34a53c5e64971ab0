-- What passes between two accounts, or is settled there, changes their rows as the books say.
use Rattle.tb_ledger.proofs.Common.{◌≡◌, ◌≢◌, ℕ, Bool, true, false, cond, eqb, ◌==◌, List, [], ◌∷◌, find, Some, Result, Ok, Err, refl, ap, ◌∙◌, arith, Transfer, CreateTransferResult, replaced, changed, replaced-changed, AccountRow, IsNoted, closing_debit, closing_credit, account_row_key, gained, released_and_gained, on_debits, on_credits, as_recorded, ExchangesRows, ExchangesIn, account_row_at, CanSettle, Settles, SettlesIn, Noted, with_noted}
use Rattle.tb_ledger.specs.declared.tables.work.Undo.TheVariants.{Account}
use Rattle.tb_ledger.proofs.Settled.{both_written, found_still, refound}
use Rattle.tb_ledger.proofs.UndoLogs.{grown_by, grows_both, leads_by, leads_both}

-- a row put in its own place changes nothing
replaced_same : {X : Type 0} (key : X → ℕ) (x : X) (xs : List X) → find (λ y. key y == key x) xs ≡ Some x → replaced key x xs ≡ xs
replaced_same key x [] found = refl
replaced_same key x (y ∷ ys) found = by (eqb (key y) (key x)) (replaced_same key x ys) found
  where
    by : (b : Bool) → (find (λ y. key y == key x) ys ≡ Some x → replaced key x ys ≡ ys) → cond b (Some y) (find (λ y. key y == key x) ys) ≡ Some x → cond b (x ∷ ys) (y ∷ replaced key x ys) ≡ y ∷ ys
    by true later is = let same : x ≡ y = cc in ap (λ z. z ∷ ys) same
    by false later is = ap (λ zs. y ∷ zs) (later is)

-- and so do the rows of two accounts
both_same : (a b : ℕ) (d c d' c' : AccountRow) (accounts later : List AccountRow) → account_row_at accounts a ≡ Some d → account_row_at accounts b ≡ Some c → d' ≡ d → c' ≡ c → later ≡ replaced account_row_key c' (replaced account_row_key d' accounts) → later ≡ accounts
both_same a b d c d' c' accounts later d_is c_is d_same c_same wrote =
    let first : replaced account_row_key d' accounts ≡ accounts = rw d_same (replaced_same account_row_key d accounts (refound account_row_key a d accounts d_is)) in
    wrote ∙ ap (replaced account_row_key c') first ∙ rw c_same (replaced_same account_row_key c accounts (refound account_row_key b c accounts c_is))

pub passed_in : (t : Transfer) (time : ℕ) (undo_log grown : Noted) (accounts later : List AccountRow) (d c d' c' : AccountRow) (r : Result ℕ CreateTransferResult) → t.debit_account_id ≢ t.credit_account_id
    → account_row_at accounts t.debit_account_id ≡ Some d → account_row_at accounts t.credit_account_id ≡ Some c → ExchangesRows t time undo_log d c r d' c' grown → later ≡ replaced account_row_key c' (replaced account_row_key d' accounts)
    → ExchangesIn t time undo_log accounts r later grown
passed_in t time undo_log grown accounts later d c d' c' (Ok amount) apart d_is c_is passes wrote =
    let recorded = as_recorded t amount time in (
      rw (d_is, c_is) passes.0,
      record {
        debit = d;
        credit = c;
        debit_there = d_is;
        credit_there = c_is;
        balanced = passes.1.0;
        written = both_written t.debit_account_id t.credit_account_id (on_debits (gained closing_debit recorded)) (on_credits (gained closing_credit recorded)) d d' c c' accounts later (λ y. refl) (λ y. refl) apart d_is c_is passes.1.1 passes.1.2 wrote;
        notes = passes.1.3;
      },
    )
passed_in t time undo_log grown accounts later d c d' c' (Err refusal) apart d_is c_is refused wrote =
    (rw (d_is, c_is) refused.0, (both_same t.debit_account_id t.credit_account_id d c d' c' accounts later d_is c_is refused.1.0 refused.1.1 wrote, refused.1.2))

pub settled_in : (p r : Transfer) (undo_log grown : Noted) (accounts later : List AccountRow) (d c d' c' : AccountRow) (x : Result (Unit {0}) CreateTransferResult) → r.debit_account_id ≢ r.credit_account_id
    → account_row_at accounts r.debit_account_id ≡ Some d → account_row_at accounts r.credit_account_id ≡ Some c → CanSettle p r d.debits → CanSettle p r c.credits → Settles p r undo_log d c x d' c' grown → later ≡ replaced account_row_key c' (replaced account_row_key d' accounts)
    → SettlesIn p r undo_log accounts x later grown
settled_in p r undo_log grown accounts later d c d' c' (Ok x) apart d_is c_is can_d can_c passes wrote = record {
  debit = d;
  credit = c;
  debit_there = d_is;
  credit_there = c_is;
  judged = passes.0;
  leaves = (
    both_written r.debit_account_id r.credit_account_id (on_debits (released_and_gained closing_debit p r)) (on_credits (released_and_gained closing_credit p r)) d d' c c' accounts later (λ y. refl) (λ y. refl) apart d_is c_is (passes.1.0 can_d) (passes.1.1 can_c) wrote,
    passes.1.2,
  );
}
settled_in p r undo_log grown accounts later d c d' c' (Err code) apart d_is c_is can_d can_c refused wrote =
    record { debit = d; credit = c; debit_there = d_is; credit_there = c_is; judged = refused.0; leaves = (both_same r.debit_account_id r.credit_account_id d c d' c' accounts later d_is c_is refused.1.0 refused.1.1 wrote, refused.1.2) }

-- two accounts changed, one after the other: both rows are noted as they were
pub noted_two : (d_id c_id : ℕ) (takes gives : AccountRow → AccountRow) (d c : AccountRow) (accounts later : List AccountRow) (undo_log grown : Noted) → ((y : AccountRow) → account_row_key (takes y) ≡ account_row_key y) → ((y : AccountRow) → account_row_key (gives y) ≡ account_row_key y)
    → grown ≡ with_noted (Account c) (with_noted (Account d) undo_log)
    → d_id ≢ c_id → account_row_at accounts d_id ≡ Some d → account_row_at accounts c_id ≡ Some c → later ≡ changed account_row_key c_id gives (changed account_row_key d_id takes accounts) → IsNoted 2 accounts later undo_log grown
noted_two d_id c_id takes gives d c accounts later undo_log grown same same' noted apart d_is c_is changes =
    let between = changed account_row_key d_id takes accounts in
    let mid = with_noted (Account d) undo_log in
    let still = found_still d_id c_id takes c accounts same apart c_is in
    let second : replaced account_row_key c later ≡ between = ap (replaced account_row_key c) changes ∙ replaced-changed account_row_key c_id gives c between same' still in
    let first : replaced account_row_key d between ≡ accounts = replaced-changed account_row_key d_id takes d accounts same d_is in
    let noted_d : IsNoted 1 accounts between undo_log mid = grown_by (Account d) undo_log mid refl (λ pushed x. leads_by undo_log.changes mid.changes (Account d) (record x { accounts = accounts }) (record x { accounts = between }) pushed (λ i. record x { accounts = first i }) tt) in
    let noted_c : IsNoted 1 between later mid grown = grown_by (Account c) mid grown noted (λ pushed x. leads_by mid.changes grown.changes (Account c) (record x { accounts = between }) (record x { accounts = later }) pushed (λ i. record x { accounts = second i }) tt) in
    grows_both 1 1 2 undo_log mid grown noted_d noted_c (omega arith) (λ us vs ws one two x. leads_both (record x { accounts = accounts }) (record x { accounts = between }) (record x { accounts = later }) us vs ws (one x) (two x))

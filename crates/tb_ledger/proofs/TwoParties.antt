-- A transfer between two accounts that passes: what its record finds.
use Rattle.tb_ledger.proofs.Common.{◌≡◌, ℕ, ◌<◌, ◌≤◌, ◌==◌, true, false, List, find, None, option_map, ap, ◌∙◌, Transfer, AccountRow, Rows, account_now, resolves, transfer_at, as_recorded, account_row_at, PassesIn, books_in, row_now, times_out, new_transfer_row, CanList, AreRowsKept, Noted, transfer_key, first_of, id_code, pair_code, two_party_own_tests, transfer_verdict, recorded_transfer, balanced_between, AMOUNT_MAX}
use Rattle.tb_ledger.proofs.Accepted.{new_transfer}
use Rattle.tb_ledger.proofs.FoundPairs.{FoundPair}
use Rattle.tb_ledger.proofs.Index.{not_listed_yet}
use Rattle.tb_ledger.proofs.Settled.{no_row}
use Rattle.tb_ledger.proofs.VerdictLaws.{account_stands, verdict_by_rows, balanced_found, recorded_pair, recorded_single}

pub record FindsPair {A : Type 0} (rows : Rows A) (t : Transfer) (time amount : ℕ) : Type 0 where
  pub verdict : transfer_verdict (books_in rows) t time ≡ 0
  pub recorded : recorded_transfer (books_in rows) t time ≡ as_recorded t amount time
  pub pair : FoundPair (books_in rows) (as_recorded t amount time)
  pub new : transfer_at (books_in rows) t.id ≡ None
  pub fresh : find (λ row. row.recorded.id == t.id) rows.transfers.items ≡ None
  pub can_list : times_out (new_transfer_row (as_recorded t amount time)) ≡ true → CanList (new_transfer_row (as_recorded t amount time)) rows.timeouts

pub finds_pair : {A : Type 0} (rows : Rows A) (t : Transfer) (time amount : ℕ) (undo_log grown : Noted) (later : List AccountRow) → AreRowsKept rows → 0 < rows.timeouts.spare → t.id ≤ AMOUNT_MAX
    → id_code (books_in rows) t ≡ 0 → resolves t ≡ false → first_of (two_party_own_tests t) ≡ 0
    → pair_code (option_map row_now (account_row_at rows.accounts.items t.debit_account_id)) (option_map row_now (account_row_at rows.accounts.items t.credit_account_id)) t time ≡ 0 → PassesIn t time undo_log rows.accounts.items amount later grown → FindsPair rows t time amount
finds_pair rows t time amount undo_log grown later kept spare fits free single own judged passes =
    let B = books_in rows in
    let debit = account_stands rows kept t.debit_account_id ∙ ap (option_map row_now) passes.debit_there in
    let credit = account_stands rows kept t.credit_account_id ∙ ap (option_map row_now) passes.credit_there in
    let verdict : transfer_verdict B t time ≡ 0 = verdict_by_rows rows kept t time free single own ∙ judged in
    let balanced : amount ≡ balanced_between (account_now B t.debit_account_id) (account_now B t.credit_account_id) t = passes.balanced ∙ balanced_found B t (row_now passes.debit) (row_now passes.credit) debit credit in
    let pair = recorded_pair B t time amount single verdict balanced in
    let new = new_transfer B t time verdict in
    let fresh = no_row transfer_key (λ t. t.recorded) t.id rows.transfers.items new in
    record {
      verdict = verdict;
      recorded = recorded_single B t time amount single balanced;
      pair = pair;
      new = new;
      fresh = fresh;
      can_list = λ is. record {
        in_range = pair.in_time;
        capacity = spare;
        absent = not_listed_yet rows.transfers.items rows.timeouts kept.index (new_transfer_row (as_recorded t amount time)) fresh fits;
      };
    }

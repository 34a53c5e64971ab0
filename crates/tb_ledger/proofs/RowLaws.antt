-- Rows that are put back as they were, and their order.
use Rattle.tb_ledger.proofs.Common.{◌≡◌, ℕ, ◌==◌, Bool, true, if◌then◌else◌, List, [], find, Some, None, refl, sym, subst, ap, ◌∙◌, arith, put, Rising, rising-put, AccountRow, TransferRow, Timeout, Rows, capacity_of, Uses, books_in, books_of, AreRowsKept, AreLedgerRows, Noted, chained, unwound, IsUndoneTo, LeadsBack}
use Rattle.tb_ledger.proofs.SoundLaws.{sound_failed}

-- rows that are as others were, except for spare rows that n events may have used
pub record AreBack {A : Type 0} (n : ℕ) (start later : Rows A) : Type 0 where
  pub kept : AreRowsKept later
  pub books : books_in later ≡ books_in start
  pub uses : Uses n (capacity_of start) (capacity_of later)

-- so are those after the changes of a log that leads back
pub rows_back : {A : Type 0} (n : ℕ) (start rows later : Rows A) (log : Noted) → AreRowsKept start → LeadsBack (chained start) (chained rows) [] log.changes → rows.failed ≡ start.failed → rows.time ≡ start.time → Uses n (capacity_of start) (capacity_of rows)
    → IsUndoneTo (unwound log.changes (chained rows)) rows later → AreBack n start later
rows_back n start rows later log kept back failed time uses undone =
    let same = undone.undone ∙ back.undone in
    let accounts : later.accounts.items ≡ start.accounts.items = ap (λ x. x.accounts) same in
    let transfers : later.transfers.items ≡ start.transfers.items = ap (λ x. x.transfers) same in
    let timeouts : later.timeouts ≡ start.timeouts = ap (λ x. x.timeouts) same in
    let failed_too : later.failed ≡ start.failed = undone.failed ∙ failed in
    let keeps : later.keeps_failed ≡ start.keeps_failed = undone.keeps_failed ∙ uses.keeps_failed in
    let same_time : later.time ≡ start.time = undone.time ∙ time in
    record {
      kept = rw (accounts, transfers, timeouts, failed_too, keeps, same_time) kept;
      books = rw (accounts, transfers, failed_too, keeps, same_time) refl;
      uses = record {
        accounts = omega (arith, uses.accounts, undone.accounts_capacity);
        transfers = omega (arith, uses.transfers, undone.transfers_capacity);
        timeouts = rw timeouts (omega arith);
        failed = rw failed_too (omega arith);
        keeps_failed = keeps;
      };
    }

-- with one failed id more
pub ledger_with_failed : (accounts : List AccountRow) (transfers : List TransferRow) (failed : List ℕ) (keeps : Bool) (timeouts : List Timeout) (time id : ℕ) → AreLedgerRows accounts transfers failed keeps timeouts time
    → keeps ≡ true → find (λ k. k == id) failed ≡ None → AreLedgerRows accounts transfers (put (λ k. k) id failed) keeps timeouts time
ledger_with_failed accounts transfers failed keeps timeouts time id ledger kept absent =
    let B = books_of accounts transfers failed keeps time in
    let was : Rising (λ k. k) failed = ledger.rising.failed failed (ap (λ b. if b then Some failed else None) kept) in
    record {
      kept = ledger.kept;
      index = ledger.index;
      unused = λ none. absurd (cc);
      sound = sound_failed B (if keeps then Some (put (λ k. k) id failed) else None) ledger.sound;
      rising = record {
        accounts = ledger.rising.accounts;
        transfers = ledger.rising.transfers;
        failed = λ ids is. let same : Some (put (λ k. k) id failed) ≡ Some ids = sym (ap (λ b. if b then Some (put (λ k. k) id failed) else None) kept) ∙ is in let them : put (λ k. k) id failed ≡ ids = cc in subst (Rising (λ k. k)) them (rising-put (λ k. k) id failed absent was);
      };
    }

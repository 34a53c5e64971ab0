-- A refusal that a function passes on.
use Rattle.tb_ledger.proofs.Common.{◌≡◌, ◌≢◌, ℕ, Result, Ok, Err, IfErr, sym, subst, IsErrAnd, AccountRow, Work, Books, AreRowsKept, Noted, Decides, Stored}
use Rattle.tb_ledger.proofs.Capacities.{leaves_still}

pub err_handed_on : {X R : Type 0} (P : R → Type 0) (r : Result X R) (refusal : R) → IsErrAnd r (λ y. y ≡ refusal) → P refusal → IfErr r P
err_handed_on P (Ok x) refusal is holds = tt
err_handed_on P (Err y) refusal is holds = subst P (sym is) holds

-- an event is refused, and nothing is changed
pub decides_none : {R A : Type 0} (code_of : R → ℕ) (code : ℕ) (books : Books) (work later : Work A) (r : Result (Unit {0}) R) (refusal : R) → AreRowsKept work.rows → IsErrAnd r (λ y. y ≡ refusal)
    → (code ≡ code_of refusal) × (code_of refusal ≢ 0) → later ≡ work → Decides code_of code books work r later
decides_none code_of code books work later (Ok x) refusal kept is judged same = absurd is
decides_none code_of code books work later (Err y) refusal kept is judged same = record {
  judged = subst (λ y. (code ≡ code_of y) × (code_of y ≢ 0)) (sym is) judged;
  done = tt;
  refused = same;
  leaves = leaves_still work later kept same;
}

-- accounts and undo log that a refusal leaves
pub left_alone : {A : Type 0} (work : Work A) (accounts : Stored AccountRow) (grown : Noted) → (accounts.items ≡ work.rows.accounts.items) × (grown ≡ work.undo_log) → accounts.spare ≡ work.rows.accounts.spare
    → record work { rows = record (work.rows) { accounts = accounts }; undo_log = grown } ≡ work
left_alone work accounts grown same spare = λ i. record work { rows = record (work.rows) { accounts = record { items = same.0 i; spare = spare i } }; undo_log = same.1 i }

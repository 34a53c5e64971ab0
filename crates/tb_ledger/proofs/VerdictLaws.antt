-- The verdicts, by the rows that are found.
use Rattle.tb_ledger.proofs.Common.{◌≡◌, ◌≢◌, ℕ, suc, zero, eqb, ◌==◌, ◌||◌, ◌&&◌, Bool, true, false, List, [], ◌∷◌, find, is_some, Option, Some, None, option_map, if◌then◌else◌, refl, sym, ap, ap₂, subst, ◌∙◌, arith, Bor, not, bit_or, nat_tests, list_any, option_map_or, option_copied, Account, Transfer, CreateAccountResult, CreateTransferResult, PendingTransferNotFound, account_result_code, transfer_result_code, Books, closed, posts, resolves, pending, transfer_at, account_now, as_it_stands, state_of, recorded_transfer, Test, closed_tests, closed_at, named_tests, named_code, resolve_own_tests, resolve_code, transfer_verdict, first_of, first_code, account_own_tests, account_exists_tests, account_new_tests, account_verdict, transfer_own_tests, transfer_exists_tests, failed_tests, filled, filled_from, two_party_own_tests, balanced_amount, balanced_between, single_code, pair_code, id_code, Rows, books_in, AreRowsKept, row_now, row_closed, HasSums, HasState, find-map, each-find, AccountRow, and_or_self, State, TransferRow, FoundPending, account_row_at, closed_code, has_flag}
use Rattle.tb_ledger.proofs.SoundLaws.{filled_keeps}
use Rattle.tb_ledger.proofs.CurrentRows.{row_stands}
use Rattle.tb_ledger.proofs.Accepted.{fail, found_from, found_pair, found_pending, found_stamped}
use Rattle.tb_ledger.proofs.FoundPairs.{FoundPair}

-- an id is found among ids
pub any-found : {X : Type 0} (p : X → Bool) (xs : List X) → list_any p xs ≡ is_some (find p xs)
any-found p [] = refl
any-found p (x ∷ xs) = elim (p x) as (λ b. (b || list_any p xs) ≡ is_some (if b then Some x else find p xs)) [ true ↦ refl | false ↦ any-found p xs ]

pub some-copied : {T : Type 0} (o : Option (Bor T)) → is_some (option_copied o) ≡ is_some o
some-copied None = refl
some-copied (Some x) = refl

-- a code is itself, or 0
pub only : (z : ℕ) → (if z == 0 then 0 else z) ≡ z
only zero = refl
only (suc n) = let e : (suc n == 0) ≡ false = grind (arith, nat_tests) in rw e refl

second_code : (x y z : ℕ) → x ≡ 0 → (y ≡ 0 → ⊥) → first_code (x ∷ y ∷ z ∷ []) ≡ y
second_code x y z none refused = let e : (y == 0) ≡ false = grind (arith, nat_tests) in rw (none, e) refl

account_refused : (a e : Account) → first_of (account_exists_tests (Some e) a) ≡ 0 → ⊥
account_refused a e is = let there : true ≡ false = (fail (account_exists_tests (Some e) a) refl is).1.1.1.1.1.1.0 in absurd (cc)

transfer_refused : (f e : Transfer) → first_of (transfer_exists_tests (Some e) f) ≡ 0 → ⊥
transfer_refused f e is = let there : true ≡ false = (fail (transfer_exists_tests (Some e) f) refl is).1.1.1.1.1.1.1.1.1.1.1.0 in absurd (cc)

-- an account whose id is there is refused
pub account_there_judged : (B : Books) (a e : Account) (refusal : CreateAccountResult) → first_of (account_own_tests a) ≡ 0 → account_now B a.id ≡ Some e → account_result_code refusal ≡ first_of (account_exists_tests (Some e) a)
    → (account_verdict B a ≡ account_result_code refusal) × (account_result_code refusal ≢ 0)
account_there_judged B a e refusal own found is = (rw found (second_code _ _ (first_of (account_new_tests a)) own (account_refused a e)) ∙ sym is, λ none. account_refused a e (sym is ∙ none))

pub account_new_code : (B : Books) (a : Account) → first_of (account_own_tests a) ≡ 0 → account_now B a.id ≡ None → first_of (account_new_tests a) ≡ account_verdict B a
account_new_code B a own found = rw (found, own) (sym (only (first_of (account_new_tests a))))

-- filling
pub filled_missing : (B : Books) (t : Transfer) → resolves t ≡ true → transfer_at B t.pending_id ≡ None → filled B t ≡ t
filled_missing B t is found = rw (is, found) refl

-- a transfer whose id is there
pub id_there_judged : (B : Books) (t e : Transfer) (refusal : CreateTransferResult) → first_of (transfer_own_tests t) ≡ 0 → transfer_at B t.id ≡ Some e → transfer_result_code refusal ≡ first_of (transfer_exists_tests (Some e) (filled B t))
    → (id_code B t ≡ transfer_result_code refusal) × (transfer_result_code refusal ≢ 0)
id_there_judged B t e refusal own found is = (rw found (second_code _ _ (first_of (failed_tests B.failed t)) own (transfer_refused (filled B t) e)) ∙ sym is, λ none. transfer_refused (filled B t) e (sym is ∙ none))

-- a transfer whose id isn't there
pub id_free : (B : Books) (t : Transfer) → first_of (transfer_own_tests t) ≡ 0 → transfer_at B t.id ≡ None
    → first_of (failed_tests B.failed t) ≡ id_code B t
id_free B t own found = rw (own, found) (sym (only (first_of (failed_tests B.failed t))))

pub balanced_found : (B : Books) (t : Transfer) (d c : Account) → account_now B t.debit_account_id ≡ Some d → account_now B t.credit_account_id ≡ Some c
    → balanced_amount d c t ≡ balanced_between (account_now B t.debit_account_id) (account_now B t.credit_account_id) t
balanced_found B t d c d_is c_is = rw (d_is, c_is) refl

-- what is found in the rows is what is found in the books
pub transfer_stands : {A : Type 0} (rows : Rows A) (id : ℕ) → transfer_at (books_in rows) id ≡ option_map (λ t. t.recorded) (find (λ t. t.recorded.id == id) rows.transfers.items)
transfer_stands rows id = find-map (λ t. t.id == id) (λ t. t.recorded) rows.transfers.items

pub account_stands : {A : Type 0} (rows : Rows A) → AreRowsKept rows → (id : ℕ) → account_now (books_in rows) id ≡ option_map row_now (find (λ a. a.created.id == id) rows.accounts.items)
account_stands rows kept id = by (find (λ a. a.created.id == id) rows.accounts.items) refl
  where
    by : (o : Option AccountRow) → find (λ a. a.created.id == id) rows.accounts.items ≡ o → account_now (books_in rows) id ≡ option_map row_now o
    by None e = ap (option_map (as_it_stands (books_in rows))) (find-map (λ a. a.id == id) (λ a. a.created) rows.accounts.items ∙ ap (option_map (λ a. a.created)) e)
    by (Some a) e = row_stands rows.accounts.items rows.transfers.items rows.failed.items rows.keeps_failed rows.time kept.kept.states id a (each-find (HasSums rows.transfers.items) (λ a. a.created.id == id) a rows.accounts.items kept.kept.sums e) e

-- an account as it is now is closed as its row is
flag_stands : (a : AccountRow) → closed (row_now a) ≡ row_closed a
flag_stands a = by (row_closed a) refl
  where
    created : (x y z : Bool) → (x || y || z) ≡ false → x ≡ false
    created true y z e = absurd (cc)
    created false y z e = refl

    by : (b : Bool) → row_closed a ≡ b → has_flag 32 (if b then bit_or a.created.flags 32 else a.created.flags) ≡ b
    by true e = ap (λ n. not (n == 0)) (and_or_self 32 a.created.flags)
    by false e = created (closed a.created) a.debits.held_closed a.credits.held_closed e

closed_stands_at : {A : Type 0} (rows : Rows A) → AreRowsKept rows → (id : ℕ) → closed_at (books_in rows) id ≡ option_map_or row_closed (find (λ a. a.created.id == id) rows.accounts.items) false
closed_stands_at rows kept id = ap (λ o. option_map_or closed o false) (account_stands rows kept id) ∙ by (find (λ a. a.created.id == id) rows.accounts.items)
  where
    by : (o : Option AccountRow) → option_map_or closed (option_map row_now o) false ≡ option_map_or row_closed o false
    by None = refl
    by (Some a) = flag_stands a

-- whether both accounts of a pending transfer are closed, by their rows
pub closed_by_rows : {A : Type 0} (rows : Rows A) → AreRowsKept rows → (t p : Transfer) (d c : AccountRow) → find (λ a. a.created.id == p.debit_account_id) rows.accounts.items ≡ Some d → find (λ a. a.created.id == p.credit_account_id) rows.accounts.items ≡ Some c
    → (code : ℕ) → code ≡ first_of (closed_tests t (row_closed d) (row_closed c)) → code ≡ first_of (closed_tests t (closed_at (books_in rows) p.debit_account_id) (closed_at (books_in rows) p.credit_account_id))
closed_by_rows rows kept t p d c d_is c_is code is =
    let debit = closed_stands_at rows kept p.debit_account_id ∙ ap (λ o. option_map_or row_closed o false) d_is in
    let credit = closed_stands_at rows kept p.credit_account_id ∙ ap (λ o. option_map_or row_closed o false) c_is in
    is ∙ sym (ap (λ b. first_of (closed_tests t b (closed_at (books_in rows) p.credit_account_id))) debit ∙ ap (λ b. first_of (closed_tests t (row_closed d) b)) credit)

-- the tests after the first
abbrev later : List Test → List Test
later [] = []
later (test ∷ tests) = tests

-- the state counts only if the transfer is pending
named_same : (t p : Transfer) (s s' : State) → (pending p ≡ true → s ≡ s') → first_of (named_tests t p s) ≡ first_of (named_tests t p s')
named_same t p s s' same = elim (pending p) as (λ b. (b ≡ true → s ≡ s') → (if not b then 26 else first_of (later (named_tests t p s))) ≡ (if not b then 26 else first_of (later (named_tests t p s')))) [ true ↦ λ same. ap (λ s. first_of (later (named_tests t p s))) (same refl) | false ↦ λ same. refl ] same

-- a post or void and the row that it names
pub named_row : {A : Type 0} (rows : Rows A) → AreRowsKept rows → (id : ℕ) (p : TransferRow) → find (λ row. row.recorded.id == id) rows.transfers.items ≡ Some p → (t : Transfer) (named closed_code : ℕ)
    → named ≡ first_of (named_tests t p.recorded p.state) → closed_code ≡ first_of (closed_tests t (closed_at (books_in rows) p.recorded.debit_account_id) (closed_at (books_in rows) p.recorded.credit_account_id))
    → named_code (books_in rows) t (Some p.recorded) ≡ first_code (named ∷ closed_code ∷ [])
named_row rows kept id p found t named closed_code named_is closed_is =
    let B = books_in rows in
    let has = each-find (HasState rows.transfers.items rows.time) (λ row. row.recorded.id == id) p rows.transfers.items kept.kept.states found in
    let same : named ≡ first_of (named_tests t p.recorded (state_of B p.recorded)) = named_is ∙ named_same t p.recorded p.state (state_of B p.recorded) has.state_is in
    ap (λ n. first_code (n ∷ first_of (closed_tests t (closed_at B p.recorded.debit_account_id) (closed_at B p.recorded.credit_account_id)) ∷ [])) (sym same) ∙ ap (λ n. first_code (named ∷ n ∷ [])) (sym closed_is)

-- a post or void that fits its pending transfer has found it
pub pending_fits : {A : Type 0} (rows : Rows A) → AreRowsKept rows → (p : TransferRow) (t : Transfer) → find (λ row. row.recorded.id == t.pending_id) rows.transfers.items ≡ Some p → resolves t ≡ true
    → first_of (resolve_own_tests t) ≡ 0 → first_of (named_tests t p.recorded p.state) ≡ 0 → FoundPending (books_in rows) (filled_from p.recorded t)
pending_fits rows kept p t found resolving own named =
    let B = books_in rows in
    let has = each-find (HasState rows.transfers.items rows.time) (λ row. row.recorded.id == t.pending_id) p rows.transfers.items kept.kept.states found in
    let stands = transfer_stands rows t.pending_id ∙ ap (option_map (λ t. t.recorded)) found in
    found_from B t p.recorded stands own (sym (named_same t p.recorded p.state (state_of B p.recorded) has.state_is) ∙ named)

pub pair_first : (x y : ℕ) → (x ≡ 0 → ⊥) → first_code (x ∷ y ∷ []) ≡ x
pair_first x y refused = let e : (x == 0) ≡ false = grind (arith, nat_tests) in rw e refl

pub pair_second : (x y : ℕ) → x ≡ 0 → first_code (x ∷ y ∷ []) ≡ y
pair_second x y passed = rw passed (only y)

-- a post or void that is right by itself: one that names no transfer, and one that does
pub resolve_missing : (B : Books) (t : Transfer) → first_of (resolve_own_tests t) ≡ 0 → transfer_at B t.pending_id ≡ None → resolve_code B t ≡ transfer_result_code PendingTransferNotFound
resolve_missing B t own none = rw (own, none) refl

pub resolve_found : (B : Books) (t p : Transfer) → first_of (resolve_own_tests t) ≡ 0 → transfer_at B t.pending_id ≡ Some p → resolve_code B t ≡ named_code B t (Some p)
resolve_found B t p own found = rw (own, found) (only (named_code B t (Some p)))

-- a transfer whose id is free has the verdict of its kind
pub single_verdict : (B : Books) (t : Transfer) (time : ℕ) → id_code B t ≡ 0 → resolves t ≡ false → transfer_verdict B t time ≡ single_code B t time
single_verdict B t time free single = ap₂ (λ n b. first_code (n ∷ (if b then resolve_code B t else single_code B t time) ∷ [])) free single ∙ only (single_code B t time)

pub resolving_verdict : (B : Books) (t : Transfer) (time : ℕ) → id_code B t ≡ 0 → resolves t ≡ true → transfer_verdict B t time ≡ resolve_code B t
resolving_verdict B t time free resolving = ap₂ (λ n b. first_code (n ∷ (if b then resolve_code B t else single_code B t time) ∷ [])) free resolving ∙ only (resolve_code B t)

-- filling leaves the id and the pending id, and whether it posts
pub filled_id : (B : Books) (t : Transfer) → (filled B t).id ≡ t.id
filled_id B t = filled_keeps (λ t. t.id) B t (λ p. refl)

pub filled_pending_id : (B : Books) (t : Transfer) → (filled B t).pending_id ≡ t.pending_id
filled_pending_id B t = filled_keeps (λ t. t.pending_id) B t (λ p. refl)

pub filled_posts : (B : Books) (t : Transfer) → posts (filled B t) ≡ posts t
filled_posts B t = filled_keeps posts B t (λ p. refl)

pub same_closed_code : (B : Books) (r t p : Transfer) → posts r ≡ posts t → closed_code B r p ≡ closed_code B t p
same_closed_code B r t p same = ap (λ b. first_of ((65, b && closed_at B p.debit_account_id) ∷ (66, b && closed_at B p.credit_account_id) ∷ [])) same

-- what the record of an accepted transfer found
pub recorded_pair : (B : Books) (t : Transfer) (time amount : ℕ) → resolves t ≡ false → transfer_verdict B t time ≡ 0
    → amount ≡ balanced_between (account_now B t.debit_account_id) (account_now B t.credit_account_id) t → FoundPair B (record t { amount = amount; timestamp = time })
recorded_pair B t time amount single ok is = subst (λ n. FoundPair B (record t { amount = n; timestamp = time })) (sym is) (found_pair B t time single ok)

pub recorded_pending : (B : Books) (t f : Transfer) (time : ℕ) → resolves t ≡ true → transfer_verdict B t time ≡ 0 → f ≡ filled B t → FoundPending B (record f { timestamp = time })
recorded_pending B t f time resolving ok is = found_stamped B f time (subst (λ f. FoundPending B f) (sym is) (found_pending B t time resolving ok))

-- a transfer between two accounts that is wrong by itself, and one that isn't
pub own_refused : (B : Books) (t : Transfer) (time code : ℕ) → code ≡ first_of (two_party_own_tests t) → code ≢ 0 → single_code B t time ≡ code
own_refused B t time code is refused =
    let some : eqb (first_of (two_party_own_tests t)) 0 ≡ false = let differs : first_of (two_party_own_tests t) ≢ 0 = λ e. refused (is ∙ e) in grind (arith, nat_tests) in
    let here : single_code B t time ≡ first_of (two_party_own_tests t) = rw some refl in
    here ∙ sym is

pair_left : (B : Books) (t : Transfer) (time : ℕ) → first_of (two_party_own_tests t) ≡ 0 → single_code B t time ≡ pair_code (account_now B t.debit_account_id) (account_now B t.credit_account_id) t time
pair_left B t time own = rw own (only (pair_code (account_now B t.debit_account_id) (account_now B t.credit_account_id) t time))

-- its verdict, by the rows of its accounts
pub verdict_by_rows : {A : Type 0} (rows : Rows A) → AreRowsKept rows → (t : Transfer) (time : ℕ) → id_code (books_in rows) t ≡ 0 → resolves t ≡ false → first_of (two_party_own_tests t) ≡ 0
    → transfer_verdict (books_in rows) t time ≡ pair_code (option_map row_now (account_row_at rows.accounts.items t.debit_account_id)) (option_map row_now (account_row_at rows.accounts.items t.credit_account_id)) t time
verdict_by_rows rows kept t time free single own =
    let B = books_in rows in
    single_verdict B t time free single ∙ pair_left B t time own ∙ ap₂ (λ d c. pair_code d c t time) (account_stands rows kept t.debit_account_id) (account_stands rows kept t.credit_account_id)

pub recorded_single : (B : Books) (t : Transfer) (time amount : ℕ) → resolves t ≡ false → amount ≡ balanced_between (account_now B t.debit_account_id) (account_now B t.credit_account_id) t
    → recorded_transfer B t time ≡ record t { amount = amount; timestamp = time }
recorded_single B t time amount single is =
    let balanced : recorded_transfer B t time ≡ record t { amount = balanced_between (account_now B t.debit_account_id) (account_now B t.credit_account_id) t; timestamp = time } = rw single refl in
    balanced ∙ ap (λ n. record t { amount = n; timestamp = time }) (sym is)

-- What a verdict of 0 says: each test of its tables fails.
use Rattle.tb_ledger.proofs.Common.{◌≡◌, ◌≢◌, ℕ, ◌+◌, ◌*◌, ◌≤◌, Bool, true, false, not, ◌&&◌, if◌then◌else◌, eqb, ltb, ◌==◌, List, [], ◌∷◌, Option, Some, None, option_map, bit_and, bit_or, refl, sym, ap, subst, ◌∙◌, arith, ltb-false, nat_tests, and_parts, and_from, and_or_apart, and_or_self, Account, Transfer, Each, found_key, State, Open, Posted, Voided, Expired, Books, closed, debits_limited, credits_limited, pending, resolves, is_open, is_posted, is_voided, is_expired, state_of, stands_closed, account_at, account_now, as_it_stands, transfer_at, debits_pending, debits_posted, credits_pending, credits_posted, Test, first_of, first_code, is_not, account_own_tests, account_exists_tests, account_new_tests, account_verdict, transfer_own_tests, transfer_exists_tests, failed_tests, transfer_verdict, filled, filled_amount, filled_from, given_or, differs, id_code, resolve_own_tests, named_tests, closed_tests, closed_at, named_code, resolve_code, two_party_own_tests, pair_tests, pair_code, amount_tests, single_code, balanced_amount, balanced_between, blank, FoundPending, AMOUNT_MAX, LAST_MOMENT, has_flag}
use Rattle.tb_ledger.proofs.FoundPairs.{FoundPair}

-- no test's code is 0
abbrev pub coded : List Test → Bool
coded [] = true
coded (test ∷ tests) = not (test.0 == 0) && coded tests

pub fail : (tests : List Test) → coded tests ≡ true → first_of tests ≡ 0 → Each (λ test. test.1 ≡ false) tests
fail [] is_coded zero_is = tt
fail (test ∷ tests) is_coded zero_is = by test.1 refl (and_parts (not (test.0 == 0)) (coded tests) is_coded) (fail tests) zero_is
  where
    by : (b : Bool) → test.1 ≡ b → (not (test.0 == 0) ≡ true) × (coded tests ≡ true) → (coded tests ≡ true → first_of tests ≡ 0 → Each (λ test. test.1 ≡ false) tests) → (if b then test.0 else first_of tests) ≡ 0 → (test.1 ≡ false) × Each (λ test. test.1 ≡ false) tests
    by true e parts later is = let tested : not (eqb test.0 0) ≡ true = parts.0 in absurd (grind (arith, nat_tests))
    by false e parts later is = (e, later parts.1 is)

pub none_fails : (codes : List ℕ) → first_code codes ≡ 0 → Each (λ code. code ≡ 0) codes
none_fails [] is = tt
none_fails (code ∷ codes) is = by (eqb code 0) refl (none_fails codes) is
  where
    by : (b : Bool) → eqb code 0 ≡ b → (first_code codes ≡ 0 → Each (λ code. code ≡ 0) codes) → (if b then first_code codes else code) ≡ 0 → (code ≡ 0) × Each (λ code. code ≡ 0) codes
    by true e later is = let here : code ≡ 0 = grind (arith, nat_tests) in (here, later is)
    by false e later is = absurd (grind (arith, nat_tests))

-- numbers that a test does not distinguish
pub same_numbers : (x y : ℕ) → is_not x y ≡ false → x ≡ y
same_numbers x y is = by (eqb x y) refl is
  where
    by : (b : Bool) → eqb x y ≡ b → not b ≡ false → x ≡ y
    by true e is = grind (arith, nat_tests)
    by false e is = absurd (cc)

-- numbers that a test distinguishes
other_numbers : (x y : ℕ) → eqb x y ≡ false → x ≢ y
other_numbers x y is same = grind (arith, nat_tests)

-- closing leaves the other flags
pub flag_stays : (mask flags : ℕ) (b : Bool) → bit_and 32 mask ≡ 0 → has_flag mask (if b then bit_or flags 32 else flags) ≡ has_flag mask flags
flag_stays mask flags true apart = ap (λ n. not (n == 0)) (and_or_apart mask flags 32 apart)
flag_stays mask flags false apart = refl

-- an account that is closed as it is now has the flag
pub closed_flag : (B : Books) (a : Account) → closed (as_it_stands B a) ≡ false → stands_closed B a ≡ false
closed_flag B a is = elim (stands_closed B a) as (λ b. has_flag 32 (if b then bit_or a.flags 32 else a.flags) ≡ false → b ≡ false) [ true ↦ λ test. let set : has_flag 32 (bit_or a.flags 32) ≡ true = ap (λ n. not (n == 0)) (and_or_self 32 a.flags) in absurd (cc) | false ↦ λ test. refl ] is

-- an accepted account is new
pub new_account : (B : Books) (a : Account) → account_verdict B a ≡ 0 → account_at B a.id ≡ None
new_account B a ok = by (account_at B a.id) (none_fails (first_of (account_own_tests a) ∷ first_of (account_exists_tests (account_now B a.id) a) ∷ first_of (account_new_tests a) ∷ []) ok).1.0
  where
    by : (o : Option Account) → first_of (account_exists_tests (option_map (as_it_stands B) o) a) ≡ 0 → o ≡ None
    by None is = refl
    by (Some e) is = let tests = fail (account_exists_tests (Some (as_it_stands B e)) a) refl is in let there : true ≡ false = tests.1.1.1.1.1.1.0 in absurd (cc)

-- an accepted account has no sums yet, and nothing is reserved
pub plain_account : (B : Books) (a : Account) → account_verdict B a ≡ 0 → a ≡ blank a
plain_account B a ok =
    let groups = none_fails (first_of (account_own_tests a) ∷ first_of (account_exists_tests (account_now B a.id) a) ∷ first_of (account_new_tests a) ∷ []) ok in
    let own = fail (account_own_tests a) refl groups.0 in
    let new = fail (account_new_tests a) refl groups.1.1.0 in
    let reserved = same_numbers a.reserved 0 own.1.0 in
    let debits_pending = same_numbers a.debits_pending 0 new.1.0 in
    let debits_posted = same_numbers a.debits_posted 0 new.1.1.0 in
    let credits_pending = same_numbers a.credits_pending 0 new.1.1.1.0 in
    let credits_posted = same_numbers a.credits_posted 0 new.1.1.1.1.0 in
    λ i. record a { debits_pending = debits_pending i; debits_posted = debits_posted i; credits_pending = credits_pending i; credits_posted = credits_posted i; reserved = reserved i }

-- the groups of tests of an accepted transfer: the first ones of either kind, and those of its own kind
id_passes : (B : Books) (t : Transfer) (time : ℕ) → transfer_verdict B t time ≡ 0 → id_code B t ≡ 0
id_passes B t time ok = (none_fails (id_code B t ∷ (if resolves t then resolve_code B t else single_code B t time) ∷ []) ok).0

own_code : (B : Books) (t : Transfer) (time : ℕ) → transfer_verdict B t time ≡ 0 → (if resolves t then resolve_code B t else single_code B t time) ≡ 0
own_code B t time ok = (none_fails (id_code B t ∷ (if resolves t then resolve_code B t else single_code B t time) ∷ []) ok).1.0

-- an id that is free, no transfer has
pub id_free : (B : Books) (t : Transfer) → id_code B t ≡ 0 → transfer_at B t.id ≡ None
id_free B t free = by (transfer_at B t.id) (none_fails (first_of (transfer_own_tests t) ∷ first_of (transfer_exists_tests (transfer_at B t.id) (filled B t)) ∷ first_of (failed_tests B.failed t) ∷ []) free).1.0
  where
    by : (o : Option Transfer) → first_of (transfer_exists_tests o (filled B t)) ≡ 0 → o ≡ None
    by None is = refl
    by (Some e) is = let tests = fail (transfer_exists_tests (Some e) (filled B t)) refl is in let there : true ≡ false = tests.1.1.1.1.1.1.1.1.1.1.1.0 in absurd (cc)

-- an accepted transfer is new
pub new_transfer : (B : Books) (t : Transfer) (time : ℕ) → transfer_verdict B t time ≡ 0 → transfer_at B t.id ≡ None
new_transfer B t time ok = id_free B t (id_passes B t time ok)

open_of : (s : State) → is_posted s ≡ false → is_voided s ≡ false → is_expired s ≡ false → is_open s ≡ true
open_of Open a b c = refl
open_of Posted a b c = absurd (cc)
open_of Voided a b c = absurd (cc)
open_of Expired a b c = absurd (cc)

is_true : (b : Bool) → not b ≡ false → b ≡ true
is_true true is = refl
is_true false is = absurd (cc)

-- what is given is the same, or nothing is given
given_same : (x y : ℕ) → differs x y ≡ false → given_or x y ≡ y
given_same x y is = elim (eqb x 0) as (λ b. (not b && is_not x y) ≡ false → (if b then y else x) ≡ y) [ true ↦ λ is. refl | false ↦ λ is. same_numbers x y is ] is

pub filled_found : (B : Books) (t p : Transfer) → resolves t ≡ true → transfer_at B t.pending_id ≡ Some p → filled B t ≡ filled_from p t
filled_found B t p is found = rw (is, found) refl

-- a post or void, filled from the pending transfer that it names
pub found_from : (B : Books) (t p : Transfer) → transfer_at B t.pending_id ≡ Some p → first_of (resolve_own_tests t) ≡ 0 → first_of (named_tests t p (state_of B p)) ≡ 0 → FoundPending B (filled_from p t)
found_from B t p named own_is named_is =
    let own = fail (resolve_own_tests t) refl own_is in
    let tests = fail (named_tests t p (state_of B p)) refl named_is in record {
      p = p;
      named = named;
      held = and_from (pending p) (is_open (state_of B p)) (is_true (pending p) tests.0) (open_of (state_of B p) tests.1.1.1.1.1.1.1.0 tests.1.1.1.1.1.1.1.1.0 tests.1.1.1.1.1.1.1.1.1.0);
      not_pending = own.1.0;
      not_both = own.0;
      debit_same = given_same t.debit_account_id p.debit_account_id tests.1.0;
      credit_same = given_same t.credit_account_id p.credit_account_id tests.1.1.0;
      ledger_same = given_same t.ledger p.ledger tests.1.1.1.0;
      at_most = ltb-false p.amount (filled_amount p t) tests.1.1.1.1.1.0;
    }

pub found_pending : (B : Books) (t : Transfer) (time : ℕ) → resolves t ≡ true → transfer_verdict B t time ≡ 0 → FoundPending B (filled B t)
found_pending B t time is ok = by (transfer_at B t.pending_id) refl codes.1.0
  where
    codes : (first_of (resolve_own_tests t) ≡ 0) × Each (λ code. code ≡ 0) (named_code B t (transfer_at B t.pending_id) ∷ [])
    codes = none_fails (first_of (resolve_own_tests t) ∷ named_code B t (transfer_at B t.pending_id) ∷ []) (subst (λ b. (if b then resolve_code B t else single_code B t time) ≡ 0) is (own_code B t time ok))

    by : (o : Option Transfer) → transfer_at B t.pending_id ≡ o → named_code B t o ≡ 0 → FoundPending B (filled B t)
    by None e z = absurd (omega arith)
    by (Some p) e z =
        let named = (none_fails (first_of (named_tests t p (state_of B p)) ∷ first_of (closed_tests t (closed_at B p.debit_account_id) (closed_at B p.credit_account_id)) ∷ []) z).0 in
        subst (FoundPending B) (sym (filled_found B t p is e)) (found_from B t p e codes.0 named)

-- a pair of accounts that is there
pair_of : (B : Books) (t : Transfer) (time : ℕ) (d c : Account) → account_at B t.debit_account_id ≡ Some d → account_at B t.credit_account_id ≡ Some c → t.debit_account_id ≢ t.credit_account_id → pair_code (Some (as_it_stands B d)) (Some (as_it_stands B c)) t time ≡ 0 → FoundPair B (record t { amount = balanced_amount (as_it_stands B d) (as_it_stands B c) t; timestamp = time })
pair_of B t time d c d_is c_is apart ok = by (balanced_amount (as_it_stands B d) (as_it_stands B c) t) ok
  where
    limit : (b l : Bool) (x y : ℕ) → b ≡ true → l ≡ b → (l && ltb x y) ≡ false → y ≤ x
    limit b l x y is same test = ltb-false x y (subst (λ k. (k && ltb x y) ≡ false) (same ∙ is) test)

    by : (amount : ℕ) → first_code (first_of (pair_tests (as_it_stands B d) (as_it_stands B c) t) ∷ first_of (amount_tests (as_it_stands B d) (as_it_stands B c) t amount time) ∷ []) ≡ 0 → FoundPair B (record t { amount = amount; timestamp = time })
    by amount z =
        let codes = none_fails (first_of (pair_tests (as_it_stands B d) (as_it_stands B c) t) ∷ first_of (amount_tests (as_it_stands B d) (as_it_stands B c) t amount time) ∷ []) z in
        let pair = fail (pair_tests (as_it_stands B d) (as_it_stands B c) t) refl codes.0 in
        let room = fail (amount_tests (as_it_stands B d) (as_it_stands B c) t amount time) refl codes.1.0 in
        let d_id : d.id ≡ t.debit_account_id = found_key (λ a. a.id) t.debit_account_id d B.accounts d_is in
        let c_id : c.id ≡ t.credit_account_id = found_key (λ a. a.id) t.credit_account_id c B.accounts c_is in
        let ledgers : d.ledger ≡ c.ledger = same_numbers d.ledger c.ledger pair.0 in
        let ledger : t.ledger ≡ d.ledger = same_numbers t.ledger d.ledger pair.1.0 in record {
          d = d;
          c = c;
          apart = apart;
          debit_is = d_is;
          credit_is = c_is;
          debit_ledger = sym ledger;
          credit_ledger = sym ledgers ∙ sym ledger;
          debit_open = closed_flag B d pair.1.1.0;
          credit_open = closed_flag B c pair.1.1.1.0;
          debits_fit = subst (λ k. debits_pending B k + debits_posted B k + amount ≤ AMOUNT_MAX) d_id (ltb-false AMOUNT_MAX (debits_pending B d.id + debits_posted B d.id + amount) room.1.1.1.1.0);
          credits_fit = subst (λ k. credits_pending B k + credits_posted B k + amount ≤ AMOUNT_MAX) c_id (ltb-false AMOUNT_MAX (credits_pending B c.id + credits_posted B c.id + amount) room.1.1.1.1.1.0);
          in_time = ltb-false LAST_MOMENT (time + t.timeout * 1000000000) room.1.1.1.1.1.1.0;
          debits_within = λ limited. subst (λ k. debits_pending B k + debits_posted B k + amount ≤ credits_posted B k) d_id (limit (debits_limited d) (debits_limited (as_it_stands B d)) (credits_posted B d.id) (debits_pending B d.id + debits_posted B d.id + amount) limited (flag_stays 2 d.flags (stands_closed B d) refl) room.1.1.1.1.1.1.1.0);
          credits_within = λ limited. subst (λ k. credits_pending B k + credits_posted B k + amount ≤ debits_posted B k) c_id (limit (credits_limited c) (credits_limited (as_it_stands B c)) (debits_posted B c.id) (credits_pending B c.id + credits_posted B c.id + amount) limited (flag_stays 4 c.flags (stands_closed B c) refl) room.1.1.1.1.1.1.1.1.0);
        }

pub found_pair : (B : Books) (t : Transfer) (time : ℕ) → resolves t ≡ false → transfer_verdict B t time ≡ 0 → FoundPair B (record t { amount = balanced_between (account_now B t.debit_account_id) (account_now B t.credit_account_id) t; timestamp = time })
found_pair B t time is ok =
    let single : single_code B t time ≡ 0 = subst (λ b. (if b then resolve_code B t else single_code B t time) ≡ 0) is (own_code B t time ok) in
    let codes = none_fails (first_of (two_party_own_tests t) ∷ pair_code (account_now B t.debit_account_id) (account_now B t.credit_account_id) t time ∷ []) single in
    let own = fail (two_party_own_tests t) refl codes.0 in
    by (other_numbers t.debit_account_id t.credit_account_id own.1.1.1.1.0) (account_at B t.debit_account_id) (account_at B t.credit_account_id) refl refl codes.1.0
  where
    by : t.debit_account_id ≢ t.credit_account_id → (d c : Option Account) → account_at B t.debit_account_id ≡ d → account_at B t.credit_account_id ≡ c → pair_code (option_map (as_it_stands B) d) (option_map (as_it_stands B) c) t time ≡ 0 → FoundPair B (record t { amount = balanced_between (option_map (as_it_stands B) d) (option_map (as_it_stands B) c) t; timestamp = time })
    by apart None c e f z = absurd (omega arith)
    by apart (Some d) None e f z = absurd (omega arith)
    by apart (Some d) (Some c) e f z = pair_of B t time d c e f apart z

-- a transfer that is right by itself names two accounts
pub accounts_apart : (t : Transfer) → first_of (two_party_own_tests t) ≡ 0 → t.debit_account_id ≢ t.credit_account_id
accounts_apart t own = other_numbers t.debit_account_id t.credit_account_id (fail (two_party_own_tests t) refl own).1.1.1.1.0

-- a stamp changes nothing of what a post or void finds
pub found_stamped : (B : Books) (f : Transfer) (time : ℕ) → FoundPending B f → FoundPending B (record f { timestamp = time })
found_stamped B f time r = record {
  p = r.p;
  named = r.named;
  held = r.held;
  not_pending = r.not_pending;
  not_both = r.not_both;
  debit_same = r.debit_same;
  credit_same = r.credit_same;
  ledger_same = r.ledger_same;
  at_most = r.at_most;
}

-- The codes of a batch and their indexes fit the fields of a result.
use Rattle.std.proofs.Common.{◌≡◌, ℕ, suc, ◌+◌, ◌^◌, ◌≤◌, Bool, true, false, not, ◌&&◌, leb, leb-true, ◌==◌, if◌then◌else◌, List, [], ◌∷◌, ◌++◌, map, filter, length, replicate, zero, Option, Some, None, refl, ap, arith}
use Rattle.std.specs.List.{enumerate_from}
use Rattle.tb_records.specs.declared.records.Account.{Account}
use Rattle.tb_records.specs.declared.records.Transfer.{Transfer}
use Rattle.tb_records.specs.declared.records.EventResult.{EventResult}
use Rattle.tb_records.specs.Ordered.{Each}
use Rattle.tb_records.specs.RecordBytes.{IsResult}
use Rattle.tb_ledger.specs.Books.{Books, resolves, account_now, transfer_at, state_of}
use Rattle.tb_ledger.specs.Verdicts.{Test, first_of, first_code, account_own_tests, account_exists_tests, account_new_tests, transfer_own_tests, transfer_exists_tests, failed_tests, filled, id_code, resolve_own_tests, named_tests, closed_tests, closed_at, named_code, resolve_code, two_party_own_tests, pair_tests, amount_tests, balanced_amount, pair_code, single_code}
use Rattle.tb_ledger.specs.Batches.{Kind, Timed, Failure, account_events, transfer_events, timed, chains, code_in_chain, failure_from, undone_code, undone, chain_outcome, chain_after, chains_after, batch_after}
use Rattle.tb_ledger.proofs.Common.{results_from}
use Rattle.tb_machine.proofs.Rows.{some_one}
use Rattle.tb_machine.proofs.Judging.{both_of}

-- a code of two figures, as each code is
abbrev pub IsShort : ℕ → Type 0
IsShort code = code ≤ 99

-- the tables

abbrev short : List Test → Bool
short [] = true
short (test ∷ tests) = leb test.0 99 && short tests

first_short : (tests : List Test) → short tests ≡ true → IsShort (first_of tests)
first_short [] is = omega arith
first_short (test ∷ tests) is =
    let parts = both_of (leb test.0 99) (short tests) is in
    by test.1 (leb-true test.0 99 parts.0) (first_short tests parts.1)
  where
    by : (b : Bool) → test.0 ≤ 99 → IsShort (first_of tests) → IsShort (if b then test.0 else first_of tests)
    by true here later = here
    by false here later = later

codes_short : (codes : List ℕ) → Each IsShort codes → IsShort (first_code codes)
codes_short [] each = omega arith
codes_short (code ∷ codes) each = by (code == 0) each.0 (codes_short codes each.1)
  where
    by : (b : Bool) → IsShort code → IsShort (first_code codes) → IsShort (if b then first_code codes else code)
    by true here later = later
    by false here later = here

-- verdicts

pub short_account : (B : Books) (a : Account) (time : ℕ) → IsShort (account_events.verdict B a time)
short_account B a time = codes_short (first_of (account_own_tests a) ∷ first_of (account_exists_tests (account_now B a.id) a) ∷ first_of (account_new_tests a) ∷ [])
    (first_short (account_own_tests a) refl, (first_short (account_exists_tests (account_now B a.id) a) (there (account_now B a.id)), (first_short (account_new_tests a) refl, tt)))
  where
    there : (o : Option Account) → short (account_exists_tests o a) ≡ true
    there None = refl
    there (Some e) = refl

short_id : (B : Books) (t : Transfer) → IsShort (id_code B t)
short_id B t = codes_short (first_of (transfer_own_tests t) ∷ first_of (transfer_exists_tests (transfer_at B t.id) (filled B t)) ∷ first_of (failed_tests B.failed t) ∷ [])
    (first_short (transfer_own_tests t) refl, (first_short (transfer_exists_tests (transfer_at B t.id) (filled B t)) (there (transfer_at B t.id) (filled B t)), (first_short (failed_tests B.failed t) refl, tt)))
  where
    there : (o : Option Transfer) (f : Transfer) → short (transfer_exists_tests o f) ≡ true
    there None f = refl
    there (Some e) f = refl

short_named : (B : Books) (t : Transfer) (o : Option Transfer) → IsShort (named_code B t o)
short_named B t None = omega arith
short_named B t (Some p) = codes_short (first_of (named_tests t p (state_of B p)) ∷ first_of (closed_tests t (closed_at B p.debit_account_id) (closed_at B p.credit_account_id)) ∷ [])
    (first_short (named_tests t p (state_of B p)) refl, (first_short (closed_tests t (closed_at B p.debit_account_id) (closed_at B p.credit_account_id)) refl, tt))

short_resolve : (B : Books) (t : Transfer) → IsShort (resolve_code B t)
short_resolve B t = codes_short (first_of (resolve_own_tests t) ∷ named_code B t (transfer_at B t.pending_id) ∷ [])
    (first_short (resolve_own_tests t) refl, (short_named B t (transfer_at B t.pending_id), tt))

short_pair : (d c : Option Account) (t : Transfer) (time : ℕ) → IsShort (pair_code d c t time)
short_pair None c t time = omega arith
short_pair (Some d) None t time = omega arith
short_pair (Some d) (Some c) t time = codes_short (first_of (pair_tests d c t) ∷ first_of (amount_tests d c t (balanced_amount d c t) time) ∷ [])
    (first_short (pair_tests d c t) refl, (first_short (amount_tests d c t (balanced_amount d c t) time) refl, tt))

short_single : (B : Books) (t : Transfer) (time : ℕ) → IsShort (single_code B t time)
short_single B t time = codes_short (first_of (two_party_own_tests t) ∷ pair_code (account_now B t.debit_account_id) (account_now B t.credit_account_id) t time ∷ [])
    (first_short (two_party_own_tests t) refl, (short_pair (account_now B t.debit_account_id) (account_now B t.credit_account_id) t time, tt))

pub short_transfer : (B : Books) (t : Transfer) (time : ℕ) → IsShort (transfer_events.verdict B t time)
short_transfer B t time = codes_short (id_code B t ∷ (if resolves t then resolve_code B t else single_code B t time) ∷ []) (short_id B t, (by (resolves t), tt))
  where
    by : (b : Bool) → IsShort (if b then resolve_code B t else single_code B t time)
    by true = short_resolve B t
    by false = short_single B t time

-- a batch

each_replicate : (n code : ℕ) → IsShort code → Each IsShort (replicate n code)
each_replicate zero code is = tt
each_replicate (suc n) code is = (is, each_replicate n code is)

pub each_append : {X : Type 0} (P : X → Type 0) (xs ys : List X) → Each P xs → Each P ys → Each P (xs ++ ys)
each_append P [] ys front back = back
each_append P (x ∷ xs) ys front back = (front.0, each_append P xs ys front.1 back)

module _ {E : Type 0} (kind : Kind E) (verdict : (B : Books) (e : E) (time : ℕ) → IsShort (kind.verdict B e time)) where
  in_chain : (B : Books) (x : Timed E) (xs : List (Timed E)) → IsShort (code_in_chain kind B x xs)
  in_chain B x [] = by (kind.linked x.0)
    where
      by : (b : Bool) → IsShort (if b then 2 else kind.verdict B x.0 x.1)
      by true = omega arith
      by false = verdict B x.0 x.1
  in_chain B x (y ∷ ys) = verdict B x.0 x.1

  short_undone_code : (x : Timed E) (xs : List (Timed E)) → IsShort (undone_code kind x xs)
  short_undone_code x [] = by (kind.linked x.0)
    where
      by : (b : Bool) → IsShort (if b then 2 else 1)
      by true = omega arith
      by false = omega arith
  short_undone_code x (y ∷ ys) = omega arith

  short_undone : (xs : List (Timed E)) → Each IsShort (undone kind xs)
  short_undone [] = tt
  short_undone (x ∷ xs) = (short_undone_code x xs, short_undone xs)

  failed : (place : ℕ) (B : Books) (chain : List (Timed E)) (f : Failure E) → failure_from kind place B chain ≡ Some f → IsShort f.code
  failed place B [] f is = absurd cc
  failed place B (x ∷ xs) f is = by (code_in_chain kind B x xs == 0) (failed (place + 1) (kind.recorded B x.0 x.1) xs f) is
    where
      by : (b : Bool) → (failure_from kind (place + 1) (kind.recorded B x.0 x.1) xs ≡ Some f → IsShort f.code)
          → (if b then failure_from kind (place + 1) (kind.recorded B x.0 x.1) xs else Some (record { place = place; event = x.0; code = code_in_chain kind B x xs; rest = xs })) ≡ Some f → IsShort f.code
      by true later is = later is
      by false later is = let same : code_in_chain kind B x xs ≡ f.code = ap (λ (g : Failure E). g.code) (some_one is) in let here = in_chain B x xs in omega arith

  short_block : (B : Books) (chain : List (Timed E)) → Each IsShort (chain_after kind B chain).codes
  short_block B chain = by (failure_from kind 0 B chain) refl
    where
      by : (o : Option (Failure E)) → failure_from kind 0 B chain ≡ o → Each IsShort (chain_outcome kind B chain o).codes
      by None is = each_replicate (length chain) 0 (omega arith)
      by (Some f) is = each_append IsShort (replicate f.place 1) (f.code ∷ undone kind f.rest) (each_replicate f.place 1 (omega arith)) (failed 0 B chain f is, short_undone f.rest)

  short_blocks : (B : Books) (chains : List (List (Timed E))) → Each IsShort (chains_after kind B chains).codes
  short_blocks B [] = tt
  short_blocks B (chain ∷ rest) = each_append IsShort (chain_after kind B chain).codes (chains_after kind (chain_after kind B chain).books rest).codes (short_block B chain) (short_blocks (chain_after kind B chain).books rest)

  pub short_batch : (B : Books) (events : List E) (T : ℕ) → Each IsShort (batch_after kind B events T).codes
  short_batch B events T = short_blocks (record B { time = T }) (chains kind (timed T events))

-- results

abbrev entry : ℕ × ℕ → EventResult
entry x = record { index = x.0; result = x.1 }

abbrev numbered : ℕ → List ℕ → List (ℕ × ℕ)
numbered p xs = filter (λ x. not (x.1 == 0)) (enumerate_from p xs)

pub results_fit : (p : ℕ) (codes : List ℕ) → p + length codes ≤ 2 ^ 32 → Each IsShort codes → Each IsResult (results_from p codes)
results_fit p [] few each = tt
results_fit p (x ∷ xs) few each = by (x == 0) (results_fit (p + 1) xs (omega arith) each.1)
  where
    by : (b : Bool) → Each IsResult (results_from (p + 1) xs) → Each IsResult (map entry (if not b then (p, x) ∷ numbered (p + 1) xs else numbered (p + 1) xs))
    by true later = later
    by false later = let code = each.0 in (record { index = omega arith; result = omega arith }, later)

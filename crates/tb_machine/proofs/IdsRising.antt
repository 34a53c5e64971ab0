-- In the books after entries each id is there once, so that posts and voids settle.
use Rattle.std.proofs.Common.{◌≡◌, ℕ, ◌+◌, ◌==◌, Bool, true, false, cond, eqb, List, [], ◌∷◌, fold, take, drop, Option, Some, None, option_map, inl, inr, refl, sym, ap, ◌∙◌, subst}
use Rattle.std.specs.List.{list_any}
use Rattle.std.specs.Option.{option_map_or}
use Rattle.tb_records.specs.declared.bodies.Body.{Body}
use Rattle.tb_records.specs.declared.bodies.Body.TheVariants.{CreateAccounts, CreateTransfers}
use Rattle.tb_records.specs.declared.limits.Profile.{Profile}
use Rattle.tb_records.specs.declared.limits.Profile.TheVariants.{One, Two}
use Rattle.tb_records.specs.declared.records.Account.{Account}
use Rattle.tb_records.specs.declared.records.Transfer.{Transfer}
use Rattle.tb_records.specs.Ordered.{put, Rising}
use Rattle.tb_records.proofs.ByKey.{rising-put}
use Rattle.tb_ledger.specs.Batches.{Timed, Failure, account_events, transfer_events, timed, chains, is_final, code_in_chain, failure_from, all_recorded, chain_outcome, chain_after, chains_after}
use Rattle.tb_ledger.specs.Books.{Books, empty_books, resolves, account_now, transfer_at}
use Rattle.tb_ledger.specs.Sound.{account_key, transfer_key, IdsRise}
use Rattle.tb_ledger.specs.Verdicts.{account_verdict, recorded_account, transfer_verdict, recorded_transfer, balanced_between, filled}
use Rattle.tb_ledger.proofs.Accepted.{new_account, new_transfer}
use Rattle.tb_ledger.proofs.BatchLaws.{batch_kept, chain_kept}
use Rattle.tb_ledger.proofs.FailedLaws.{final_is_new, absent}
use Rattle.tb_ledger.proofs.MeaningLaws.{settles_both}
use Rattle.tb_ledger.proofs.VerdictLaws.{filled_id}
use Rattle.tb_machine.specs.declared.entries.Entry.{Entry}
use Rattle.tb_machine.specs.Histories.{State, start, at_time, executed, step}
use Rattle.tb_machine.specs.Dumps.{marked_after}
use Rattle.tb_machine.specs.MarkedLaws.{met, next_in}
use Rattle.tb_machine.specs.Settling.{JudgedIn, JudgedAmong, IdsRiseAfter, PostsAndVoidsSettle}
use Rattle.tb_machine.proofs.Rows.{some_one}

-- new books, and books at a later time

rise_empty : (profile : Profile) → IdsRise (empty_books profile)
rise_empty One = record { accounts = tt; transfers = tt; failed = λ ids is. absurd cc }
rise_empty Two = record { accounts = tt; transfers = tt; failed = λ ids is. subst (Rising (λ id. id)) (some_one is) tt }

rise_at : (B : Books) (time : ℕ) → IdsRise B → IdsRise (at_time B time)
rise_at B time rise = record { accounts = rise.accounts; transfers = rise.transfers; failed = rise.failed }

-- an event that is accepted

rise_account : (B : Books) (a : Account) (time : ℕ) → IdsRise B → account_verdict B a ≡ 0 → IdsRise (account_events.recorded B a time)
rise_account B a time rise ok = record {
  accounts = rising-put account_key (recorded_account a time) B.accounts (new_account B a ok) rise.accounts;
  transfers = rise.transfers;
  failed = rise.failed;
}

recorded_id : (B : Books) (t : Transfer) (time : ℕ) → (recorded_transfer B t time).id ≡ t.id
recorded_id B t time = by (resolves t)
  where
    by : (b : Bool) → (cond b (record (filled B t) { timestamp = time }) (record t { amount = balanced_between (account_now B t.debit_account_id) (account_now B t.credit_account_id) t; timestamp = time })).id ≡ t.id
    by true = filled_id B t
    by false = refl

rise_transfer : (B : Books) (t : Transfer) (time : ℕ) → IdsRise B → transfer_verdict B t time ≡ 0 → IdsRise (transfer_events.recorded B t time)
rise_transfer B t time rise ok = record {
  accounts = rise.accounts;
  transfers = rising-put transfer_key (recorded_transfer B t time) B.transfers (ap (transfer_at B) (recorded_id B t time) ∙ new_transfer B t time ok) rise.transfers;
  failed = rise.failed;
}

-- a chain of transfers that fails

-- the id of t has not failed
abbrev IsFresh : Books → Transfer → Type 0
IsFresh B t = option_map_or (list_any (λ id. id == t.id)) B.failed false ≡ false

code_fresh : (B : Books) (x : Timed Transfer) (xs : List (Timed Transfer)) → is_final (code_in_chain transfer_events B x xs) ≡ true → IsFresh B x.0
code_fresh B x [] final = by (transfer_events.linked x.0) final
  where
    by : (b : Bool) → is_final (cond b 2 (transfer_verdict B x.0 x.1)) ≡ true → IsFresh B x.0
    by true final = absurd cc
    by false final = final_is_new B x.0 x.1 (transfer_verdict B x.0 x.1) refl final
code_fresh B x (y ∷ ys) final = final_is_new B x.0 x.1 (transfer_verdict B x.0 x.1) refl final

failure_fresh : (place : ℕ) (B : Books) (chain : List (Timed Transfer)) (f : Failure Transfer) → failure_from transfer_events place B chain ≡ Some f → is_final f.code ≡ true → IsFresh B f.event
failure_fresh place B [] f is final = absurd cc
failure_fresh place B (x ∷ xs) f is final = by (eqb (code_in_chain transfer_events B x xs) 0) (λ is. failure_fresh (place + 1) (transfer_events.recorded B x.0 x.1) xs f is final) is
  where
    by : (b : Bool) → (failure_from transfer_events (place + 1) (transfer_events.recorded B x.0 x.1) xs ≡ Some f → IsFresh B f.event)
        → cond b (failure_from transfer_events (place + 1) (transfer_events.recorded B x.0 x.1) xs) (Some (record { place = place; event = x.0; code = code_in_chain transfer_events B x xs; rest = xs })) ≡ Some f
        → IsFresh B f.event
    by true later is = later is
    by false later is = subst (λ (g : Failure Transfer). is_final g.code ≡ true → IsFresh B g.event) (some_one is) (code_fresh B x xs) final

rise_refused : (B : Books) (t : Transfer) (code : ℕ) → IdsRise B → (is_final code ≡ true → IsFresh B t) → IdsRise (transfer_events.refused B t code)
rise_refused B t code rise fresh = by (is_final code) fresh
  where
    more : (o : Option (List ℕ)) → option_map_or (list_any (λ id. id == t.id)) o false ≡ false → ((ids : List ℕ) → o ≡ Some ids → Rising (λ id. id) ids)
        → (ids : List ℕ) → option_map (put (λ id. id) t.id) o ≡ Some ids → Rising (λ id. id) ids
    more None new rising ids is = absurd cc
    more (Some failed) new rising ids is = subst (Rising (λ id. id)) (some_one is) (rising-put (λ id. id) t.id failed (absent failed true t.id refl new) (rising failed refl))

    by : (b : Bool) → (b ≡ true → IsFresh B t) → IdsRise (cond b (record B { failed = option_map (put (λ id. id) t.id) B.failed }) B)
    by true fresh = record { accounts = rise.accounts; transfers = rise.transfers; failed = more B.failed (fresh refl) rise.failed }
    by false fresh = rise

-- chains

-- of all recorded the failed ids stay, and the others rise
all_failed : (B : Books) (chain : List (Timed Transfer)) → (all_recorded transfer_events B chain).failed ≡ B.failed
all_failed B [] = refl
all_failed B (x ∷ xs) = all_failed (transfer_events.recorded B x.0 x.1) xs

abbrev TablesRise : Books → Type 0
TablesRise B = Rising account_key B.accounts × Rising transfer_key B.transfers

tables_block : (B : Books) (chain : List (Timed Transfer)) → IdsRise B → TablesRise (chain_after transfer_events B chain).books
tables_block B chain rise = chain_kept transfer_events TablesRise recorded refused B chain (rise.accounts, rise.transfers)
  where
    recorded : (B : Books) (t : Transfer) (time : ℕ) → TablesRise B → transfer_verdict B t time ≡ 0 → TablesRise (transfer_events.recorded B t time)
    recorded B t time rise ok = (rise.0, rising-put transfer_key (recorded_transfer B t time) B.transfers (ap (transfer_at B) (recorded_id B t time) ∙ new_transfer B t time ok) rise.1)

    refused : (B : Books) (t : Transfer) (code : ℕ) → TablesRise B → TablesRise (transfer_events.refused B t code)
    refused B t code rise = by (is_final code)
      where
        by : (b : Bool) → TablesRise (cond b (record B { failed = option_map (put (λ id. id) t.id) B.failed }) B)
        by true = rise
        by false = rise

rise_block : (B : Books) (chain : List (Timed Transfer)) → IdsRise B → IdsRise (chain_after transfer_events B chain).books
rise_block B chain rise =
    let tables = tables_block B chain rise in
    record { accounts = tables.0; transfers = tables.1; failed = by (failure_from transfer_events 0 B chain) refl }
  where
    by : (o : Option (Failure Transfer)) → failure_from transfer_events 0 B chain ≡ o → (ids : List ℕ) → (chain_outcome transfer_events B chain o).books.failed ≡ Some ids → Rising (λ id. id) ids
    by None is ids found = rise.failed ids (sym (all_failed B chain) ∙ found)
    by (Some f) is ids found = (rise_refused B f.event f.code rise (failure_fresh 0 B chain f is)).failed ids found

rise_blocks : (B : Books) (chains : List (List (Timed Transfer))) → IdsRise B → IdsRise (chains_after transfer_events B chains).books
rise_blocks B [] rise = rise
rise_blocks B (chain ∷ chains) rise = rise_blocks (chain_after transfer_events B chain).books chains (rise_block B chain rise)

-- entries

rise_executed : (B : Books) (body : Body) (time : ℕ) → IdsRise B → IdsRise (executed B body time)
rise_executed B (CreateAccounts events) time rise = batch_kept account_events IdsRise rise_account (λ B a code rise. rise) B events time (rise_at B time rise)
rise_executed B (CreateTransfers events) time rise = rise_blocks (at_time B time) (chains transfer_events (timed time events)) (rise_at B time rise)
rise_executed B body time rise = rise_at B time rise

rise_from : (S : State) (h : List Entry) → IdsRise S.books → IdsRise (fold step S h).books
rise_from S [] rise = rise
rise_from S (e ∷ es) rise = rise_from (step S e) es (rise_executed S.books e.request.body e.time rise)

pub ids_rise_after : IdsRiseAfter
ids_rise_after profile clients_max None h = rise_from (start profile clients_max) h (rise_empty profile)
ids_rise_after profile clients_max (Some n) h =
    let before = rise_from (start profile clients_max) (take n h) (rise_empty profile) in
    rise_from (marked_after profile clients_max (take n h)) (drop n h)
    (record { accounts = before.accounts; transfers = before.transfers; failed = λ ids is. subst (Rising (λ id. id)) (some_one is) tt })

-- the books in which an event is judged

rise_in : (B : Books) (chain : List (Timed Transfer)) (x : Timed Transfer) (C : Books) → IdsRise B → JudgedIn transfer_events B chain x C → IdsRise C
rise_in B [] x C rise judged = absurd judged
rise_in B (y ∷ ys) x C rise (inl here) = subst IdsRise here.1 rise
rise_in B (y ∷ ys) x C rise (inr later) = rise_in (transfer_events.recorded B y.0 y.1) ys x C (rise_transfer B y.0 y.1 rise later.0) later.1

rise_among : (B : Books) (chains : List (List (Timed Transfer))) (x : Timed Transfer) (C : Books) → IdsRise B → JudgedAmong transfer_events B chains x C → IdsRise C
rise_among B [] x C rise judged = absurd judged
rise_among B (chain ∷ chains) x C rise (inl here) = rise_in B chain x C rise here
rise_among B (chain ∷ chains) x C rise (inr later) = rise_among (chain_after transfer_events B chain).books chains x C (rise_block B chain rise) later

pub posts_and_voids_settle : PostsAndVoidsSettle
posts_and_voids_settle profile clients_max mark h e t timestamp C judged is ok =
    settles_both C t timestamp
    (rise_among (at_time (next_in profile clients_max mark h).books e.time) (chains transfer_events (timed e.time judged.0)) (t, timestamp) C
    (rise_at (next_in profile clients_max mark h).books e.time (ids_rise_after profile clients_max (met mark h) h)) judged.2)
    is ok

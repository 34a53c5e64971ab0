-- The records of the books fit their bytes, whatever lawful requests are executed, and so does what is found of them.
use Rattle.std.proofs.Common.{◌≡◌, ℕ, ◌+◌, ◌-◌, ◌^◌, ◌<◌, ◌≤◌, min, Bool, true, false, ◌==◌, if◌then◌else◌, List, [], ◌∷◌, length, All, bit_or, Option, Some, None, option_map, refl, ap, subst, arith}
use Rattle.std.proofs.lemmas.List.Elements.{All-nil, All-cons, All-head, All-tail}
use Rattle.std.proofs.lemmas.Nat.{or_lt}
use Rattle.std.specs.List.{filter_map, cons_option}
use Rattle.std.specs.Option.{option_map_or}
use Rattle.tb_records.specs.declared.bodies.Body.{Body}
use Rattle.tb_records.specs.declared.bodies.Body.TheVariants.{Register, CreateAccounts, CreateTransfers, LookupAccounts, LookupTransfers}
use Rattle.tb_records.specs.declared.limits.Profile.{Profile}
use Rattle.tb_records.specs.declared.limits.Profile.TheVariants.{One, Two}
use Rattle.tb_records.specs.declared.records.Account.{Account}
use Rattle.tb_records.specs.declared.records.Transfer.{Transfer}
use Rattle.tb_records.specs.Frames.{BodyFits}
use Rattle.tb_records.specs.Messages.{count, item_count}
use Rattle.tb_records.specs.Ordered.{Each, put}
use Rattle.tb_records.specs.RecordBytes.{IsAccount, IsTransfer, IsResult}
use Rattle.tb_records.specs.ReplyFrames.{ReplyBodyFits}
use Rattle.tb_records.specs.declared.limits.TheConstants.{ITEMS_MAX, LAST_MOMENT, AMOUNT_MAX}
use Rattle.tb_records.proofs.ByKey.{each-find, each-put}
use Rattle.tb_ledger.specs.Books.{Books, empty_books, posts, resolves, balancing_debit, balancing_credit, account_at, account_now, as_it_stands, stands_closed, transfer_at}
use Rattle.tb_ledger.specs.Verdicts.{recorded_account, given_or, filled_amount, filled_from, filled, balanced_debit, balanced_amount, balanced_between, recorded_transfer}
use Rattle.tb_ledger.specs.Batches.{Kind, Timed, Failure, is_final, account_events, transfer_events, timed_from, timed, joined, chains, failure_from, all_recorded, chain_outcome, chain_after, chains_after, batch_after}
use Rattle.tb_ledger.specs.Limits.{KeepsLimits}
use Rattle.tb_ledger.specs.Sound.{Sound}
use Rattle.tb_ledger.proofs.ChainLaws.{length-batch}
use Rattle.tb_ledger.proofs.SoundLaws.{sound_later, sound_limits}
use Rattle.tb_ledger.proofs.Common.{results_from}
use Rattle.tb_machine.specs.Histories.{at_time, executed, found}
use Rattle.tb_machine.proofs.CodesFit.{short_account, short_transfer, short_batch, results_fit}

-- what holds of each, by places and by the list
pub each_of_all : {X : Type 0} (P : X → Type 0) (xs : List X) → All P xs → Each P xs
each_of_all P [] all = tt
each_of_all P (x ∷ xs) all = (All-head P x xs all, each_of_all P xs (All-tail P x xs all))

pub all_of_each : {X : Type 0} (P : X → Type 0) (xs : List X) → Each P xs → All P xs
all_of_each P [] each = All-nil P
all_of_each P (x ∷ xs) each = All-cons P x xs each.0 (all_of_each P xs each.1)

-- what recording an event that fits keeps, and refusing one, a batch of such events keeps
module _ {E : Type 0} (kind : Kind E) (Fits : E → Type 0) (T : ℕ) where
  abbrev FitsAt : Timed E → Type 0
  FitsAt x = Fits x.0 × (x.1 ≤ T)

  fit_joined : (x : Timed E) (chains : List (List (Timed E))) → FitsAt x → Each (λ chain. Each FitsAt chain) chains → Each (λ chain. Each FitsAt chain) (joined kind x chains)
  fit_joined x [] fits each = ((fits, tt), tt)
  fit_joined x (chain ∷ chains) fits each = ((fits, each.0), each.1)

  fit_blocks : (xs : List (Timed E)) → Each FitsAt xs → Each (λ chain. Each FitsAt chain) (chains kind xs)
  fit_blocks [] each = tt
  fit_blocks (x ∷ xs) each = by (kind.linked x.0) (fit_blocks xs each.1)
    where
      by : (b : Bool) → Each (λ chain. Each FitsAt chain) (chains kind xs) → Each (λ chain. Each FitsAt chain) (if b then joined kind x (chains kind xs) else (x ∷ []) ∷ chains kind xs)
      by true later = fit_joined x (chains kind xs) each.0 later
      by false later = ((each.0, tt), later)

  fit_timed : (time : ℕ) (events : List E) → time + length events ≤ T + 1 → Each Fits events → Each FitsAt (timed_from time events)
  fit_timed time [] few each = tt
  fit_timed time (e ∷ es) few each = ((each.0, omega arith), fit_timed (time + 1) es (omega arith) each.1)

  module _ (P : Books → Type 0)
      (recorded : (B : Books) (e : E) (time : ℕ) → P B → Fits e → time ≤ T → P (kind.recorded B e time))
      (refused : (B : Books) (e : E) (code : ℕ) → P B → P (kind.refused B e code)) where
    recorded_all : (B : Books) (chain : List (Timed E)) → Each FitsAt chain → P B → P (all_recorded kind B chain)
    recorded_all B [] each kept = kept
    recorded_all B (x ∷ xs) each kept = recorded_all (kind.recorded B x.0 x.1) xs each.1 (recorded B x.0 x.1 kept each.0.0 each.0.1)

    kept_block : (B : Books) (chain : List (Timed E)) → Each FitsAt chain → P B → P (chain_after kind B chain).books
    kept_block B chain each kept = by (failure_from kind 0 B chain)
      where
        by : (o : Option (Failure E)) → P (chain_outcome kind B chain o).books
        by None = recorded_all B chain each kept
        by (Some f) = refused B f.event f.code kept

    kept_blocks : (B : Books) (chains : List (List (Timed E))) → Each (λ chain. Each FitsAt chain) chains → P B → P (chains_after kind B chains).books
    kept_blocks B [] each kept = kept
    kept_blocks B (chain ∷ chains) each kept = kept_blocks (chain_after kind B chain).books chains each.1 (kept_block B chain each.0 kept)

    kept_batch : (B : Books) (events : List E) → length events ≤ T + 1 → Each Fits events → P (record B { time = T }) → P (batch_after kind B events T).books
    kept_batch B events few each kept = kept_blocks (record B { time = T }) (chains kind (timed T events)) (fit_blocks (timed T events) (fit_timed (T + 1 - length events) events (omega arith) each)) kept

-- the books

pub record RecordsFit (B : Books) : Type 0 where
  pub accounts : Each IsAccount B.accounts
  pub transfers : Each IsTransfer B.transfers

pub fit_empty : (profile : Profile) → RecordsFit (empty_books profile)
fit_empty One = record { accounts = tt; transfers = tt }
fit_empty Two = record { accounts = tt; transfers = tt }

-- an account that is stamped
stamped_account : (a : Account) (time : ℕ) → IsAccount a → time ≤ LAST_MOMENT → IsAccount (recorded_account a time)
stamped_account a time is in_range = record {
  id = is.id;
  debits_pending = is.debits_pending;
  debits_posted = is.debits_posted;
  credits_pending = is.credits_pending;
  credits_posted = is.credits_posted;
  user_data_128 = is.user_data_128;
  user_data_64 = is.user_data_64;
  user_data_32 = is.user_data_32;
  reserved = is.reserved;
  ledger = is.ledger;
  code = is.code;
  flags = is.flags;
  timestamp = omega arith;
}

fit_account : (B : Books) (a : Account) (time : ℕ) → RecordsFit B → IsAccount a → time ≤ LAST_MOMENT → RecordsFit (account_events.recorded B a time)
fit_account B a time fits is in_range = record {
  accounts = each-put (λ (a : Account). a.id) IsAccount (recorded_account a time) B.accounts (stamped_account a time is in_range) fits.accounts;
  transfers = fits.transfers;
}

-- a value that is filled in

given_fits : (x y top : ℕ) → x < top → y < top → given_or x y < top
given_fits x y top mine its = by (x == 0)
  where
    by : (b : Bool) → (if b then y else x) < top
    by true = its
    by false = mine

amount_fits : (p t : Transfer) (top : ℕ) → p.amount < top → t.amount < top → filled_amount p t < top
amount_fits p t top its mine = by (t.amount == (if posts t then AMOUNT_MAX else 0))
  where
    by : (b : Bool) → (if b then p.amount else t.amount) < top
    by true = its
    by false = mine

filled_fits : (B : Books) (t : Transfer) → RecordsFit B → IsTransfer t → IsTransfer (filled B t)
filled_fits B t fits is = by (resolves t) (transfer_at B t.pending_id) refl
  where
    from : (p : Transfer) → IsTransfer p → IsTransfer (filled_from p t)
    from p its = record {
      id = is.id;
      debit_account_id = given_fits t.debit_account_id p.debit_account_id (2 ^ 128) is.debit_account_id its.debit_account_id;
      credit_account_id = given_fits t.credit_account_id p.credit_account_id (2 ^ 128) is.credit_account_id its.credit_account_id;
      amount = amount_fits p t (2 ^ 128) its.amount is.amount;
      pending_id = is.pending_id;
      user_data_128 = given_fits t.user_data_128 p.user_data_128 (2 ^ 128) is.user_data_128 its.user_data_128;
      user_data_64 = given_fits t.user_data_64 p.user_data_64 (2 ^ 64) is.user_data_64 its.user_data_64;
      user_data_32 = given_fits t.user_data_32 p.user_data_32 (2 ^ 32) is.user_data_32 its.user_data_32;
      timeout = is.timeout;
      ledger = given_fits t.ledger p.ledger (2 ^ 32) is.ledger its.ledger;
      code = given_fits t.code p.code (2 ^ 16) is.code its.code;
      flags = is.flags;
      timestamp = is.timestamp;
    }

    by : (b : Bool) (o : Option Transfer) → transfer_at B t.pending_id ≡ o → IsTransfer (if b then option_map_or (λ p. filled_from p t) o t else t)
    by true None there = is
    by true (Some p) there = from p (each-find IsTransfer (λ (other : Transfer). other.id == t.pending_id) p B.transfers fits.transfers there)
    by false o there = is

-- a balanced amount is at most the one that was sent

debit_most : (d : Account) (t : Transfer) → balanced_debit d t ≤ t.amount
debit_most d t = by (balancing_debit t)
  where
    by : (b : Bool) → (if b then min t.amount (d.credits_posted - (d.debits_posted + d.debits_pending)) else t.amount) ≤ t.amount
    by true = omega arith
    by false = omega arith

balanced_most : (d c : Account) (t : Transfer) → balanced_amount d c t ≤ t.amount
balanced_most d c t = by (balancing_credit t) (debit_most d t)
  where
    by : (b : Bool) → balanced_debit d t ≤ t.amount → (if b then min (balanced_debit d t) (c.debits_posted - (c.credits_posted + c.credits_pending)) else balanced_debit d t) ≤ t.amount
    by true most = omega arith
    by false most = most

between_most : (d c : Option Account) (t : Transfer) → balanced_between d c t ≤ t.amount
between_most None c t = omega arith
between_most (Some d) None t = omega arith
between_most (Some d) (Some c) t = balanced_most d c t

-- a transfer that is stamped, with another amount
stamped_transfer : (t : Transfer) (amount time : ℕ) → IsTransfer t → amount < 2 ^ 128 → time ≤ LAST_MOMENT → IsTransfer (record t { amount = amount; timestamp = time })
stamped_transfer t amount time is few in_range = record {
  id = is.id;
  debit_account_id = is.debit_account_id;
  credit_account_id = is.credit_account_id;
  amount = few;
  pending_id = is.pending_id;
  user_data_128 = is.user_data_128;
  user_data_64 = is.user_data_64;
  user_data_32 = is.user_data_32;
  timeout = is.timeout;
  ledger = is.ledger;
  code = is.code;
  flags = is.flags;
  timestamp = omega arith;
}

recorded_fits : (B : Books) (t : Transfer) (time : ℕ) → RecordsFit B → IsTransfer t → time ≤ LAST_MOMENT → IsTransfer (recorded_transfer B t time)
recorded_fits B t time fits is in_range = by (resolves t) (between_most (account_now B t.debit_account_id) (account_now B t.credit_account_id) t)
  where
    by : (b : Bool) → balanced_between (account_now B t.debit_account_id) (account_now B t.credit_account_id) t ≤ t.amount
        → IsTransfer (if b then record (filled B t) { timestamp = time } else record t { amount = balanced_between (account_now B t.debit_account_id) (account_now B t.credit_account_id) t; timestamp = time })
    by true most = let its = filled_fits B t fits is in stamped_transfer (filled B t) (filled B t).amount time its its.amount in_range
    by false most =
        let amount = is.amount in
        stamped_transfer t (balanced_between (account_now B t.debit_account_id) (account_now B t.credit_account_id) t) time is (omega arith) in_range

fit_transfer : (B : Books) (t : Transfer) (time : ℕ) → RecordsFit B → IsTransfer t → time ≤ LAST_MOMENT → RecordsFit (transfer_events.recorded B t time)
fit_transfer B t time fits is in_range = record {
  accounts = fits.accounts;
  transfers = each-put (λ (t : Transfer). t.id) IsTransfer (recorded_transfer B t time) B.transfers (recorded_fits B t time fits is in_range) fits.transfers;
}

fit_refused : (B : Books) (t : Transfer) (code : ℕ) → RecordsFit B → RecordsFit (transfer_events.refused B t code)
fit_refused B t code fits = by (is_final code)
  where
    by : (b : Bool) → RecordsFit (if b then record B { failed = option_map (put (λ id. id) t.id) B.failed } else B)
    by true = record { accounts = fits.accounts; transfers = fits.transfers }
    by false = fits

at_any_time : (B : Books) (time : ℕ) → RecordsFit B → RecordsFit (at_time B time)
at_any_time B time fits = record { accounts = fits.accounts; transfers = fits.transfers }

-- what is executed of a body that fits
pub fit_executed : (B : Books) (body : Body) (time : ℕ) → BodyFits body → count body ≤ time → time ≤ LAST_MOMENT → RecordsFit B → RecordsFit (executed B body time)
fit_executed B (CreateAccounts events) time body few in_range fits =
    kept_batch account_events IsAccount time RecordsFit (λ B a at kept is low. fit_account B a at kept is (omega arith)) (λ B a code kept. kept) B events (omega arith) (each_of_all IsAccount events body) (at_any_time B time fits)
fit_executed B (CreateTransfers events) time body few in_range fits =
    kept_batch transfer_events IsTransfer time RecordsFit (λ B t at kept is low. fit_transfer B t at kept is (omega arith)) fit_refused B events (omega arith) (each_of_all IsTransfer events body) (at_any_time B time fits)
fit_executed B asked time body few in_range fits = at_any_time B time fits

-- what is found

each_filter_map : {X Y : Type 0} (P : Y → Type 0) (h : X → Option Y) → ((x : X) (y : Y) → h x ≡ Some y → P y) → (xs : List X) → Each P (filter_map h xs)
each_filter_map P h gives [] = tt
each_filter_map {Y = Y} P h gives (x ∷ xs) = by (h x) refl (each_filter_map P h gives xs)
  where
    by : (o : Option Y) → h x ≡ o → Each P (filter_map h xs) → Each P (cons_option o (filter_map h xs))
    by None is later = later
    by (Some y) is later = (gives x y is, later)

-- an account as it is now: its sums fit in sound books
account_fits : (B : Books) → Sound B → RecordsFit B → (id : ℕ) (a : Account) → account_now B id ≡ Some a → IsAccount a
account_fits B sound fits id a is = by (account_at B id) refl is
  where
    flags_fit : (flags : ℕ) (b : Bool) → flags < 2 ^ 16 → (if b then bit_or flags 32 else flags) < 2 ^ 16
    flags_fit flags true small = or_lt 16 flags 32 small (omega arith)
    flags_fit flags false small = small

    of : (x : Account) → IsAccount x → KeepsLimits (as_it_stands B x) → IsAccount (as_it_stands B x)
    of x its keeps =
        let debits = keeps.debits_fit in
        let credits = keeps.credits_fit in
        record {
          id = its.id;
          debits_pending = omega (arith, debits);
          debits_posted = omega (arith, debits);
          credits_pending = omega (arith, credits);
          credits_posted = omega (arith, credits);
          user_data_128 = its.user_data_128;
          user_data_64 = its.user_data_64;
          user_data_32 = its.user_data_32;
          reserved = its.reserved;
          ledger = its.ledger;
          code = its.code;
          flags = flags_fit x.flags (stands_closed B x) its.flags;
          timestamp = its.timestamp;
        }

    by : (o : Option Account) → account_at B id ≡ o → option_map (as_it_stands B) o ≡ Some a → IsAccount a
    by None there same = absurd cc
    by (Some x) there same =
        let it : as_it_stands B x ≡ a = cc in
        subst IsAccount it (of x (each-find IsAccount (λ (other : Account). other.id == id) x B.accounts fits.accounts there) (sound_limits B id (as_it_stands B x) (ap (option_map (as_it_stands B)) there) sound))

transfer_fits : (B : Books) → RecordsFit B → (id : ℕ) (t : Transfer) → transfer_at B id ≡ Some t → IsTransfer t
transfer_fits B fits id t is = each-find IsTransfer (λ (other : Transfer). other.id == id) t B.transfers fits.transfers is

results_of : {E : Type 0} (kind : Kind E) (B : Books) (events : List E) (T : ℕ) → ((B : Books) (e : E) (time : ℕ) → kind.verdict B e time ≤ 99) → length events ≤ ITEMS_MAX → All IsResult (results_from 0 (batch_after kind B events T).codes)
results_of kind B events T verdict few = all_of_each IsResult _ (results_fit 0 (batch_after kind B events T).codes (omega (arith, length-batch kind B events T)) (short_batch kind verdict B events T))

-- what the reply to a body says
pub found_fits : (B : Books) (body : Body) (time : ℕ) → item_count body ≤ ITEMS_MAX → B.time ≤ time → Sound B → RecordsFit B → ReplyBodyFits (found B body time)
found_fits B Register time few later sound fits = tt
found_fits B (CreateAccounts events) time few later sound fits = results_of account_events B events time short_account few
found_fits B (CreateTransfers events) time few later sound fits = results_of transfer_events B events time short_transfer few
found_fits B (LookupAccounts ids) time few later sound fits =
    all_of_each IsAccount (filter_map (account_now (at_time B time)) ids)
    (each_filter_map IsAccount (account_now (at_time B time)) (λ id a is. account_fits (at_time B time) (sound_later B time later sound) (at_any_time B time fits) id a is) ids)
found_fits B (LookupTransfers ids) time few later sound fits =
    all_of_each IsTransfer (filter_map (transfer_at (at_time B time)) ids)
    (each_filter_map IsTransfer (transfer_at (at_time B time)) (λ id t is. transfer_fits (at_time B time) (at_any_time B time fits) id t is) ids)

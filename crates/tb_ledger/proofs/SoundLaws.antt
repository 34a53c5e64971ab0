-- Sound books stay sound: at each event, at each entry, at each batch. In sound books sums fit, limits hold, ledgers balance.
use Rattle.tb_ledger.proofs.Common.{◌≡◌, ◌≢◌, ℕ, ◌≤◌, Bool, true, false, if◌then◌else◌, ◌==◌, List, [], Option, Some, None, option_map, refl, sym, ap, subst, ◌∙◌, arith, option_map_or, Account, Transfer, Profile, One, Two, put, found_key, rising-put, each-put, each-find, Books, empty_books, debits_limited, credits_limited, resolves, stands_closed, account_at, account_now, as_it_stands, transfer_at, debit, credit, account_verdict, recorded_account, transfer_verdict, recorded_transfer, filled, filled_from, balanced_between, account_events, transfer_events, is_final, batch_after, account_key, transfer_key, ledger_at, Sound, KeepsLimits, Balances, FoundPending}
use Rattle.tb_ledger.proofs.Accepted.{flag_stays, new_account, found_pair, found_pending, found_stamped}
use Rattle.tb_ledger.proofs.Sides.{kept_later, kept_account, kept_added, kept_resolved}
use Rattle.tb_ledger.proofs.BatchLaws.{batch_kept}
use Rattle.tb_ledger.proofs.LedgerSums.{ledgers_balance}
use Rattle.tb_ledger.proofs.FoundPairs.{FoundPair}

-- of failed ids nothing is said
pub sound_failed : (B : Books) (failed : Option (List ℕ)) → Sound B → Sound (record B { failed = failed })
sound_failed B failed sound = record {
  rising = sound.rising;
  apart = sound.apart;
  debits = record { named = sound.debits.named; fit = sound.debits.fit; within = sound.debits.within };
  credits = record { named = sound.credits.named; fit = sound.credits.fit; within = sound.credits.within };
}

-- new books
sound_new : (failed : Option (List ℕ)) → Sound (record { accounts = []; transfers = []; failed = failed; time = 0 })
sound_new failed = record {
  rising = tt;
  apart = tt;
  debits = record { named = tt; fit = λ id. omega arith; within = λ id a is limits. omega arith };
  credits = record { named = tt; fit = λ id. omega arith; within = λ id a is limits. omega arith };
}

pub sound_empty : (profile : Profile) → Sound (empty_books profile)
sound_empty One = sound_new None
sound_empty Two = sound_new (Some [])

-- the time moves on, and what is due expires
pub sound_later : (B : Books) (T : ℕ) → B.time ≤ T → Sound B → Sound (record B { time = T })
sound_later B T le sound = record {
  rising = sound.rising;
  apart = sound.apart;
  debits = kept_later debit credit debits_limited B T le sound.debits;
  credits = kept_later credit debit credits_limited B T le sound.credits;
}

-- an accepted account
pub sound_account : (B : Books) (a : Account) (time : ℕ) → Sound B → account_verdict B a ≡ 0 → Sound (record B { accounts = put account_key (recorded_account a time) B.accounts })
sound_account B a time sound ok =
    let none = new_account B a ok in record {
      rising = rising-put account_key (recorded_account a time) B.accounts none sound.rising;
      apart = sound.apart;
      debits = kept_account debit credit debits_limited B (recorded_account a time) none sound.debits;
      credits = kept_account credit debit credits_limited B (recorded_account a time) none sound.credits;
    }

-- a transfer that moves its amount or holds it
pub sound_moved : (B : Books) (t : Transfer) → Sound B → FoundPair B t → Sound (record B { transfers = put transfer_key t B.transfers })
sound_moved B t sound m = record {
  rising = sound.rising;
  apart = each-put transfer_key (λ t. debit t ≢ credit t) t B.transfers m.apart sound.apart;
  debits = kept_added debit credit debits_limited B t (named_of t.debit_account_id m.d m.debit_is m.debit_ledger) m.debits_fit (λ a is limits. m.debits_within (ap debits_limited (one t.debit_account_id m.d a m.debit_is is) ∙ limits)) sound.debits;
  credits = kept_added credit debit credits_limited B t (named_of t.credit_account_id m.c m.credit_is m.credit_ledger) m.credits_fit (λ a is limits. m.credits_within (ap credits_limited (one t.credit_account_id m.c a m.credit_is is) ∙ limits)) sound.credits;
}
  where
    named_of : (id : ℕ) (a : Account) → account_at B id ≡ Some a → a.ledger ≡ t.ledger → ledger_at B.accounts id ≡ Some t.ledger
    named_of id a is same = ap (option_map (λ a. a.ledger)) is ∙ ap (λ n. Some n) same

    one : (id : ℕ) (a b : Account) → account_at B id ≡ Some a → account_at B id ≡ Some b → a ≡ b
    one id a b is also = cc

-- a post or void, as recorded
pub sound_resolved : (B : Books) (f : Transfer) → Sound B → resolves f ≡ true → FoundPending B f → Sound (record B { transfers = put transfer_key f B.transfers })
sound_resolved B f sound is r = record {
  rising = sound.rising;
  apart = each-put transfer_key (λ t. debit t ≢ credit t) f B.transfers (λ same. each-find (λ t. debit t ≢ credit t) (λ t. t.id == f.pending_id) r.p B.transfers sound.apart r.named (sym r.debit_same ∙ same ∙ r.credit_same)) sound.apart;
  debits = kept_resolved debit credit debits_limited B f r.p r.named r.held is r.not_pending r.debit_same r.ledger_same r.at_most sound.debits;
  credits = kept_resolved credit debit credits_limited B f r.p r.named r.held is r.not_pending r.credit_same r.ledger_same r.at_most sound.credits;
}

-- filling leaves what it doesn't fill
pub filled_keeps : {X : Type 0} (f : Transfer → X) (B : Books) (t : Transfer) → ((p : Transfer) → f (filled_from p t) ≡ f t) → f (filled B t) ≡ f t
filled_keeps f B t same = by (resolves t) (transfer_at B t.pending_id)
  where
    by : (b : Bool) (o : Option Transfer) → f (if b then option_map_or (λ p. filled_from p t) o t else t) ≡ f t
    by true None = refl
    by true (Some p) = same p
    by false o = refl

pub filled_flags : (B : Books) (t : Transfer) → (filled B t).flags ≡ t.flags
filled_flags B t = filled_keeps (λ t. t.flags) B t (λ p. refl)

-- an accepted transfer
pub sound_transfer : (B : Books) (t : Transfer) (time : ℕ) → Sound B → transfer_verdict B t time ≡ 0 → Sound (record B { transfers = put transfer_key (recorded_transfer B t time) B.transfers })
sound_transfer B t time sound ok = by (resolves t) refl
  where
    by : (b : Bool) → resolves t ≡ b → Sound (record B { transfers = put transfer_key (if b then record (filled B t) { timestamp = time } else record t { amount = balanced_between (account_now B t.debit_account_id) (account_now B t.credit_account_id) t; timestamp = time }) B.transfers })
    by true is =
        let f : resolves (filled B t) ≡ true = ap (λ flags. resolves (record t { flags = flags })) (filled_flags B t) ∙ is in
        sound_resolved B (record (filled B t) { timestamp = time }) sound f (found_stamped B (filled B t) time (found_pending B t time is ok))
    by false is = sound_moved B (record t { amount = balanced_between (account_now B t.debit_account_id) (account_now B t.credit_account_id) t; timestamp = time }) sound (found_pair B t time is ok)

-- what a refused transfer leaves
pub sound_refused : (B : Books) (t : Transfer) (code : ℕ) → Sound B → Sound (transfer_events.refused B t code)
sound_refused B t code sound = elim (is_final code) as (λ b. Sound (if b then record B { failed = option_map (put (λ id. id) t.id) B.failed } else B)) [ true ↦ sound_failed B (option_map (put (λ id. id) t.id) B.failed) sound | false ↦ sound ]

-- a batch of accounts, a batch of transfers
pub sound_accounts : (B : Books) (events : List Account) (T : ℕ) → B.time ≤ T → Sound B → Sound (batch_after account_events B events T).books
sound_accounts B events T le sound = batch_kept account_events Sound (λ B a time sound ok. sound_account B a time sound ok) (λ B a code sound. sound) B events T (sound_later B T le sound)

pub sound_transfers : (B : Books) (events : List Transfer) (T : ℕ) → B.time ≤ T → Sound B → Sound (batch_after transfer_events B events T).books
sound_transfers B events T le sound = batch_kept transfer_events Sound (λ B t time sound ok. sound_transfer B t time sound ok) sound_refused B events T (sound_later B T le sound)

-- a batch leaves its own time
pub time_after_accounts : (B : Books) (events : List Account) (T : ℕ) → (batch_after account_events B events T).books.time ≡ T
time_after_accounts B events T = batch_kept account_events (λ B. B.time ≡ T) (λ B a time is ok. is) (λ B a code is. is) B events T refl

pub time_after_transfers : (B : Books) (events : List Transfer) (T : ℕ) → (batch_after transfer_events B events T).books.time ≡ T
time_after_transfers B events T = batch_kept transfer_events (λ B. B.time ≡ T) (λ B t time is ok. is) refused B events T refl
  where
    refused : (B : Books) (t : Transfer) (code : ℕ) → B.time ≡ T → (transfer_events.refused B t code).time ≡ T
    refused B t code is = elim (is_final code) as (λ b. (if b then record B { failed = option_map (put (λ id. id) t.id) B.failed } else B).time ≡ T) [ true ↦ is | false ↦ is ]

-- of sound books, an account as it is now keeps its limits
pub sound_limits : (B : Books) (id : ℕ) (a : Account) → account_now B id ≡ Some a → Sound B → KeepsLimits a
sound_limits B id a is sound = by (account_at B id) refl is
  where
    of : (x : Account) → account_at B id ≡ Some x → KeepsLimits (as_it_stands B x)
    of x there =
        let its : x.id ≡ id = found_key account_key id x B.accounts there in
        let here : account_at B x.id ≡ Some x = subst (λ k. account_at B k ≡ Some x) (sym its) there in record {
          debits_fit = sound.debits.fit x.id;
          credits_fit = sound.credits.fit x.id;
          debits_within = λ limited. sound.debits.within x.id x here (sym (flag_stays 2 x.flags (stands_closed B x) refl) ∙ limited);
          credits_within = λ limited. sound.credits.within x.id x here (sym (flag_stays 4 x.flags (stands_closed B x) refl) ∙ limited);
        }

    by : (o : Option Account) → account_at B id ≡ o → option_map (as_it_stands B) o ≡ Some a → KeepsLimits a
    by None e same = absurd (cc)
    by (Some x) e same = let it : as_it_stands B x ≡ a = cc in subst KeepsLimits it (of x e)

-- of sound books, every ledger balances
pub sound_balances : (B : Books) (ledger : ℕ) → Sound B → Balances B ledger
sound_balances B ledger sound = ledgers_balance B ledger sound

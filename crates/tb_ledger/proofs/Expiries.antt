-- The rows when time moves on: transfers that are due hold no more.
use Rattle.tb_ledger.proofs.Common.{Rows, books_in, AreRowsKept, KeepsRecords, ◌≡◌, ◌≢◌, ℕ, ◌≤◌, Bool, true, false, ◌&&◌, ◌==◌, List, map, find, if◌then◌else◌, Option, Some, None, option_map, IsSome, refl, sym, ap, subst, ◌∙◌, Transfer, replaced, changed, Each, Rising, each-map, each-both, each-find, each-replaced_all, find-map, map-replaced, map-changed, rising-changed, State, Posted, Voided, Expired, AccountRow, TransferRow, Books, posts, pending, resolves, is_open, is_due, state_by, closing_debit, closing_credit, debit, credit, IdsRise, ledger_at, Sound, account_row_key, transfer_row_key, row_holds, lapses, IsIndex, HasSums, HasState, AreKept, on_debits, on_credits, released, settled, accounts_released}
use Rattle.tb_ledger.proofs.RowSums.{both_hold}
use Rattle.tb_ledger.proofs.Pairs.{sums_released}
use Rattle.tb_ledger.proofs.Sides.{due_later}
use Rattle.tb_ledger.proofs.SoundLaws.{sound_later}
use Rattle.tb_ledger.proofs.States.{resolves_id}

-- the state that a row will have at T
abbrev pub at_time : ℕ → TransferRow → State
at_time T r = if is_open r.state && is_due T r.recorded then Expired else r.state

-- a row on the way to T: its state there is that of the books
pub record WillBe (T : ℕ) (records : List Transfer) (r : TransferRow) : Type 0 where
  pub state_is : pending r.recorded ≡ true → at_time T r ≡ state_by (find (resolves_id r.recorded.id) records) (is_due T r.recorded)
  pub named : resolves r.recorded ≡ true → IsSome (find (λ t. t.id == r.recorded.pending_id) records)

arrives : (o : Option Transfer) (d D : Bool) (s : State) → (d ≡ true → D ≡ true) → s ≡ state_by o d → (if is_open s && D then Expired else s) ≡ state_by o D
arrives (Some r) d D s later is = rw is (by (posts r))
  where
    by : (b : Bool) → (if is_open (if b then Posted else Voided) && D then Expired else (if b then Posted else Voided)) ≡ (if b then Posted else Voided)
    by true = refl
    by false = refl
arrives None true D s later is = rw (is, later refl) refl
arrives None false true s later is = rw is refl
arrives None false false s later is = rw is refl

due_then : (early late : ℕ) (p : Transfer) → early ≤ late → is_due early p ≡ true → is_due late p ≡ true
due_then early late p le due = elim (is_due late p) as (λ b. is_due late p ≡ b → b ≡ true) [ true ↦ λ e. refl | false ↦ λ e. absurd (let not_yet = due_later early late p le e in cc) ] refl

some_mapped : {X Y : Type 0} (g : X → Y) (o : Option X) → IsSome o → IsSome (option_map g o)
some_mapped g None is = is
some_mapped g (Some x) is = refl

some_before : {X Y : Type 0} (g : X → Y) (o : Option X) → IsSome (option_map g o) → IsSome o
some_before g None is = is
some_before g (Some x) is = refl

pub will_be : (transfers : List TransferRow) (time T : ℕ) → time ≤ T → Each (HasState transfers time) transfers → Each (WillBe T (map (λ t. t.recorded) transfers)) transfers
will_be transfers time T le states = each-map (HasState transfers time) (WillBe T (map (λ t. t.recorded) transfers)) transfers
    (λ r has. record {
      state_is = λ is. arrives (find (resolves_id r.recorded.id) (map (λ t. t.recorded) transfers)) (is_due time r.recorded) (is_due T r.recorded) r.state (due_then time T r.recorded le) (has.state_is is);
      named = λ is. subst IsSome (sym (find-map (λ t. t.id == r.recorded.pending_id) (λ t. t.recorded) transfers)) (some_mapped (λ t. t.recorded) (find (λ p. p.recorded.id == r.recorded.pending_id) transfers) (has.named is));
    }) states

pub arrived : (transfers : List TransferRow) (T : ℕ) (records : List Transfer) → map (λ t. t.recorded) transfers ≡ records → Each (λ r. lapses T r ≡ false) transfers → Each (WillBe T records) transfers → Each (HasState transfers T) transfers
arrived transfers T records same none ahead = each-both (λ r. lapses T r ≡ false) (WillBe T records) (HasState transfers T) transfers
    (λ r gone has. record {
      state_is = λ is. stays (pending r.recorded) (is_open r.state) (is_due T r.recorded) r.state is gone ∙ has.state_is is ∙ ap (λ l. state_by (find (resolves_id r.recorded.id) l) (is_due T r.recorded)) (sym same);
      named = λ is. some_before (λ t. t.recorded) (find (λ p. p.recorded.id == r.recorded.pending_id) transfers) (subst IsSome (find-map (λ t. t.id == r.recorded.pending_id) (λ t. t.recorded) transfers) (subst (λ l. IsSome (find (λ t. t.id == r.recorded.pending_id) l)) (sym same) (has.named is)));
    }) none ahead
  where
    stays : (p o d : Bool) (s : State) → p ≡ true → ((p && o) && d) ≡ false → s ≡ (if o && d then Expired else s)
    stays true true true s is gone = absurd (cc)
    stays true true false s is gone = refl
    stays true false d s is gone = refl
    stays false o d s is gone = absurd (cc)

-- a transfer that lapsed is on its way still, when it is marked
pub marked_will : (T : ℕ) (records : List Transfer) (p : TransferRow) → lapses T p ≡ true → WillBe T records p → WillBe T records (settled Expired p)
marked_will T records p lapsed has =
    let parts = both_hold (row_holds p) (is_due T p.recorded) lapsed in
    let held = both_hold (pending p.recorded) (is_open p.state) parts.0 in
    let was : at_time T p ≡ Expired = rw (held.1, parts.1) refl in
    record { state_is = λ is. sym was ∙ has.state_is is; named = has.named }

-- a transfer that lapses is released
module _ (accounts : List AccountRow) (transfers : List TransferRow) (p : TransferRow) (rising : Rising account_row_key accounts) (sums : Each (HasSums transfers) accounts)
    (found : find (λ q. q.recorded.id == p.recorded.id) transfers ≡ Some p) (holds : row_holds p ≡ true) where
  pub rising_released : (later : List AccountRow) → later ≡ accounts_released p.recorded accounts → Rising account_row_key later
  rising_released later is = rw is (rising-changed account_row_key p.recorded.credit_account_id (on_credits (released closing_credit p.recorded)) (changed account_row_key p.recorded.debit_account_id (on_debits (released closing_debit p.recorded)) accounts) (λ y. refl)
      (rising-changed account_row_key p.recorded.debit_account_id (on_debits (released closing_debit p.recorded)) accounts (λ y. refl) rising))

  pub sums_after : (later : List AccountRow) (marked : List TransferRow) → later ≡ accounts_released p.recorded accounts → marked ≡ replaced transfer_row_key (settled Expired p) transfers → Each (HasSums marked) later
  sums_after later marked is put = rw (is, put) (sums_released accounts transfers p Expired rising found holds refl sums)

-- a transfer's accounts differ, and are there, while records stay as they were in books that are sound
module _ (B : Books) (sound : Sound B) (accounts : List AccountRow) (transfers : List TransferRow) (id : ℕ) (p : TransferRow) (same_accounts : map (λ a. a.created) accounts ≡ B.accounts) (same_transfers : map (λ t. t.recorded) transfers ≡ B.transfers) (found : find (λ t. t.recorded.id == id) transfers ≡ Some p) where
  recorded_p : find (λ t. t.id == id) B.transfers ≡ Some p.recorded
  recorded_p = ap (find (λ t. t.id == id)) (sym same_transfers) ∙ find-map (λ t. t.id == id) (λ t. t.recorded) transfers ∙ ap (option_map (λ t. t.recorded)) found

  pub accounts_apart : p.recorded.debit_account_id ≢ p.recorded.credit_account_id
  accounts_apart = each-find (λ t. debit t ≢ credit t) (λ t. t.id == id) p.recorded B.transfers sound.apart recorded_p

  some_of : {X Y : Type 0} (g : X → Y) (y : Y) (o : Option X) → option_map g o ≡ Some y → IsSome o
  some_of g y None is = absurd (cc)
  some_of g y (Some x) is = refl

  party_there : (side : Transfer → ℕ) → Each (λ t. ledger_at B.accounts (side t) ≡ Some t.ledger) B.transfers → IsSome (find (λ a. a.created.id == side p.recorded) accounts)
  party_there side named =
      let ledger = each-find (λ t. ledger_at B.accounts (side t) ≡ Some t.ledger) (λ t. t.id == id) p.recorded B.transfers named recorded_p in
      let there = some_of (λ a. a.ledger) p.recorded.ledger (find (λ a. a.id == side p.recorded) B.accounts) ledger in
      some_before (λ a. a.created) (find (λ a. a.created.id == side p.recorded) accounts)
      (subst IsSome (find-map (λ a. a.id == side p.recorded) (λ a. a.created) accounts) (subst (λ l. IsSome (find (λ a. a.id == side p.recorded) l)) (sym same_accounts) there))

  pub debit_party : IsSome (find (λ a. a.created.id == p.recorded.debit_account_id) accounts)
  debit_party = party_there debit sound.debits.named

  pub credit_party : IsSome (find (λ a. a.created.id == p.recorded.credit_account_id) accounts)
  credit_party = party_there credit sound.credits.named

-- the records of accounts stay
pub accounts_stay : (p : Transfer) (accounts later : List AccountRow) → later ≡ accounts_released p accounts → map (λ a. a.created) later ≡ map (λ a. a.created) accounts
accounts_stay p accounts later is = rw (is, map-changed account_row_key (λ a. a.created) p.credit_account_id (on_credits (released closing_credit p)) (changed account_row_key p.debit_account_id (on_debits (released closing_debit p)) accounts) (λ y. refl), map-changed account_row_key (λ a. a.created) p.debit_account_id (on_debits (released closing_debit p)) accounts (λ y. refl)) refl

pub transfers_stay : (p : TransferRow) (transfers marked : List TransferRow) → find (λ q. transfer_row_key q == transfer_row_key p) transfers ≡ Some p → marked ≡ replaced transfer_row_key (settled Expired p) transfers → map (λ t. t.recorded) marked ≡ map (λ t. t.recorded) transfers
transfers_stay p transfers marked found is = ap (map (λ t. t.recorded)) is ∙ map-replaced transfer_row_key (λ t. t.recorded) (settled Expired p) p transfers found refl

pub ahead_marked : (T : ℕ) (records : List Transfer) (p : TransferRow) (transfers marked : List TransferRow) → find (λ q. transfer_row_key q == transfer_row_key p) transfers ≡ Some p → lapses T p ≡ true → marked ≡ replaced transfer_row_key (settled Expired p) transfers
    → Each (WillBe T records) transfers → Each (WillBe T records) marked
ahead_marked T records p transfers marked found lapsed is ahead =
    rw is (each-replaced_all transfer_row_key (WillBe T records) (settled Expired p) transfers (marked_will T records p lapsed (each-find (WillBe T records) (λ q. transfer_row_key q == transfer_row_key p) p transfers ahead found)) ahead)

-- the ledger at a later time, after pending transfers have ended
pub books_then : {A : Type 0} (rows later : Rows A) → KeepsRecords rows later → books_in later ≡ record (books_in rows) { time = later.time }
books_then rows later keeps = λ i. record { accounts = keeps.accounts i; transfers = keeps.transfers i; failed = (if keeps.keeps_failed i then Some ((keeps.failed i).items) else None); time = later.time }

pub ledger_then : {A : Type 0} (rows later : Rows A) → AreRowsKept rows → rows.time ≤ later.time → KeepsRecords rows later → AreKept later.accounts.items later.transfers.items later.time → IsIndex later.transfers.items later.timeouts.items → AreRowsKept later
ledger_then rows later ledger le keeps kept index = record {
  kept = kept;
  index = index;
  unused = rw (keeps.failed, keeps.keeps_failed) ledger.unused;
  sound = subst Sound (sym (books_then rows later keeps)) (sound_later (books_in rows) later.time le ledger.sound);
  rising = subst IdsRise (sym (books_then rows later keeps)) (record { accounts = ledger.rising.accounts; transfers = ledger.rising.transfers; failed = ledger.rising.failed });
}

pub none_of : {X : Type 0} (o : Option X) → ((x : X) → o ≢ Some x) → o ≡ None
none_of None never = refl
none_of (Some x) never = absurd (never x refl)

-- What the code of an accepted event makes of the rows.
use Rattle.tb_ledger.proofs.Common.{◌≡◌, ◌≢◌, ℕ, ◌+◌, ◌<◌, ◌≤◌, Bool, true, false, eqb, ◌==◌, List, [], ◌∷◌, map, find, IsSome, if◌then◌else◌, Option, Some, None, option_map, refl, sym, ap, subst, ◌∙◌, arith, nat_tests, Account, Transfer, put, replaced, changed, Each, Rising, found_key, changed_found, find-changed, find-map, each-back, each-map, each-put, each-find, map-put, map-changed, map-replaced, rising-put, AccountRow, TransferRow, Timeout, Posted, Voided, Books, posts, resolves, holds, is_open, account_at, transfer_at, closing_debit, closing_credit, debit, credit, account_key, transfer_key, ledger_at, IdsRise, Sound, account_row_key, transfer_row_key, books_in, books_of, AreRowsKept, row_holds, times_out, listed, unlisted, IsListed, IsIndex, HasSide, HasSums, HasState, AreLedgerRows, on_debits, on_credits, gained, released_and_gained, settled, state_given_by, accounts_gained, accounts_released_and_gained, new_row, new_transfer_row, Rows, Side, account_row_at, CanSettle, IsResolution, Stored}
use Rattle.tb_ledger.proofs.RowSums.{held_enough, no_sums}
use Rattle.tb_ledger.proofs.Index.{index_added, index_closed}
use Rattle.tb_ledger.proofs.Pairs.{sums_gained, sums_resolved}
use Rattle.tb_ledger.proofs.States.{states_added, states_resolved}
use Rattle.tb_ledger.proofs.CurrentRows.{holds_stand, takes_debit, takes_credit}
use Rattle.tb_ledger.proofs.SoundLaws.{sound_moved, sound_resolved}
use Rattle.tb_ledger.proofs.FoundPairs.{FoundPair}
use Rattle.tb_ledger.proofs.Expiries.{accounts_apart, debit_party, credit_party}

-- what is found by an id is found by its key
pub refound : {X : Type 0} (key : X → ℕ) (id : ℕ) (x : X) (xs : List X) → find (λ y. key y == id) xs ≡ Some x → find (λ y. key y == key x) xs ≡ Some x
refound key id x xs found = subst (λ k. find (λ y. key y == k) xs ≡ Some x) (sym (found_key key id x xs found)) found

-- a change of one account leaves the row of another
pub found_still : (d c : ℕ) (f : AccountRow → AccountRow) (z : AccountRow) (xs : List AccountRow) → ((y : AccountRow) → account_row_key (f y) ≡ account_row_key y) → d ≢ c → find (λ a. a.created.id == c) xs ≡ Some z → find (λ a. a.created.id == c) (changed account_row_key d f xs) ≡ Some z
found_still d c f z xs same apart found =
    let has : account_row_key z ≡ c = found_key account_row_key c z xs found in
    let other : eqb (account_row_key z) d ≡ false = grind (arith, nat_tests) in
    let left : option_map (λ y. if account_row_key y == d then f y else y) (find (λ a. a.created.id == c) xs) ≡ Some z = rw (found, other) refl in
    find-changed account_row_key d f c xs same ∙ left

-- a table by its rows and its spare ones
pub stored : {X : Type 0} (table : Stored X) (rows : List X) (spare : ℕ) → table.items ≡ rows → table.spare ≡ spare → table ≡ record { items = rows; spare = spare }
stored table rows spare is left = λ i. record { items = is i; spare = left i }

-- the rows of two accounts, written one after the other
pub both_written : (d c : ℕ) (f h : AccountRow → AccountRow) (row left other other_left : AccountRow) (before after : List AccountRow) → ((y : AccountRow) → account_row_key (f y) ≡ account_row_key y) → ((y : AccountRow) → account_row_key (h y) ≡ account_row_key y) → d ≢ c
    → find (λ a. a.created.id == d) before ≡ Some row → find (λ a. a.created.id == c) before ≡ Some other → left ≡ f row → other_left ≡ h other → after ≡ replaced account_row_key other_left (replaced account_row_key left before) → after ≡ changed account_row_key c h (changed account_row_key d f before)
both_written d c f h row left other other_left before after same same' apart d_is c_is left_is other_is wrote =
    let first : changed account_row_key d f before ≡ replaced account_row_key left before = changed_found account_row_key d f row before same d_is ∙ ap (λ y. replaced account_row_key y before) (sym left_is) in
    let still = found_still d c f other before same apart c_is in
    let second = changed_found account_row_key c h other (changed account_row_key d f before) same' still ∙ ap (λ y. replaced account_row_key y (changed account_row_key d f before)) (sym other_is) in
    wrote ∙ ap (replaced account_row_key other_left) (sym first) ∙ sym second

-- the order of accounts, by their rows
pub rising_rows : (accounts : List AccountRow) → Rising account_key (map (λ a. a.created) accounts) → Rising account_row_key accounts
rising_rows [] rising = tt
rising_rows (a ∷ accounts) rising = (each-back (λ b. a.created.id < account_key b) (λ b. b.created) accounts rising.0, rising_rows accounts rising.1)

-- that of transfers
pub rising_transfers : (transfers : List TransferRow) → Rising transfer_key (map (λ t. t.recorded) transfers) → Rising transfer_row_key transfers
rising_transfers [] rising = tt
rising_transfers (t ∷ transfers) rising = (each-back (λ u. t.recorded.id < transfer_key u) (λ u. u.recorded) transfers rising.0, rising_transfers transfers rising.1)

-- ids rise with one transfer more
rise_with : (B : Books) (t : Transfer) → transfer_at B t.id ≡ None → IdsRise B → IdsRise (record B { transfers = put transfer_key t B.transfers })
rise_with B t fresh rise = record { accounts = rise.accounts; transfers = rising-put transfer_key t B.transfers fresh rise.transfers; failed = rise.failed }

none_mapped : {X Y : Type 0} (g : X → Y) (o : Option X) → option_map g o ≡ None → o ≡ None
none_mapped g None e = refl
none_mapped g (Some x) e = absurd (cc)

-- an id that the books don't have, no row has
pub no_row : {X Y : Type 0} (key : Y → ℕ) (g : X → Y) (id : ℕ) (xs : List X) → find (λ y. key y == id) (map g xs) ≡ None → find (λ x. key (g x) == id) xs ≡ None
no_row key g id xs none = none_mapped g (find (λ x. key (g x) == id) xs) (sym (find-map (λ y. key y == id) g xs) ∙ none)

-- no transfer names an account that isn't there
unnamed : (side : Transfer → ℕ) (B : Books) (id : ℕ) → account_at B id ≡ None → (t : Transfer) → ledger_at B.accounts (side t) ≡ Some t.ledger → side t ≢ id
unnamed side B id none t there same = let gone = subst (λ k. ledger_at B.accounts k ≡ Some t.ledger) same there in let nothing = ap (option_map (λ a. a.ledger)) none in cc

module _ {A : Type 0} (rows : Rows A) (ledger : AreRowsKept rows) where
  abbrev B : Books
  B = books_in rows

  rising_accounts : Rising account_row_key rows.accounts.items
  rising_accounts = rising_rows rows.accounts.items ledger.sound.rising

  -- an account added
  module _ (a : Account) (later : List AccountRow) (is : later ≡ put account_row_key (new_row a) rows.accounts.items) where
    pub books_with_account : books_of later rows.transfers.items rows.failed.items rows.keeps_failed rows.time ≡ record B { accounts = put account_key a B.accounts }
    books_with_account = rw (is, map-put account_key (λ a. a.created) (new_row a) rows.accounts.items) refl

    pub ledger_with_account : account_at B a.id ≡ None → Sound (record B { accounts = put account_key a B.accounts }) → AreLedgerRows later rows.transfers.items rows.failed.items rows.keeps_failed rows.timeouts.items rows.time
    ledger_with_account fresh sound = record {
      kept = record { sums = subst (Each (HasSums rows.transfers.items)) (sym is) (each-put account_row_key (HasSums rows.transfers.items) (new_row a) rows.accounts.items (new_sums a fresh) ledger.kept.sums); states = ledger.kept.states };
      index = ledger.index;
      unused = ledger.unused;
      sound = subst Sound (sym books_with_account) sound;
      rising = subst IdsRise (sym books_with_account) (record { accounts = sound.rising; transfers = ledger.rising.transfers; failed = ledger.rising.failed });
    }
      where
        new_sums : (a : Account) → account_at B a.id ≡ None → HasSums rows.transfers.items (new_row a)
        new_sums a fresh = record {
          debits = no_sums debit closing_debit rows.transfers.items a.id (each-back (λ t. debit t ≢ a.id) (λ t. t.recorded) rows.transfers.items (each-map (λ t. ledger_at B.accounts (debit t) ≡ Some t.ledger) (λ t. debit t ≢ a.id) B.transfers (unnamed debit B a.id fresh) ledger.sound.debits.named));
          credits = no_sums credit closing_credit rows.transfers.items a.id (each-back (λ t. credit t ≢ a.id) (λ t. t.recorded) rows.transfers.items (each-map (λ t. ledger_at B.accounts (credit t) ≡ Some t.ledger) (λ t. credit t ≢ a.id) B.transfers (unnamed credit B a.id fresh) ledger.sound.credits.named));
        }

  -- a transfer recorded that is no post or void
  module _ (t : Transfer) (later : List AccountRow) (more : List TransferRow) (is : later ≡ accounts_gained t rows.accounts.items) (added : more ≡ put transfer_row_key (new_transfer_row t) rows.transfers.items) where
    pub books_with_single : books_of later more rows.failed.items rows.keeps_failed rows.time ≡ record B { transfers = put transfer_key t B.transfers }
    books_with_single = rw (is, added, map-put transfer_key (λ t. t.recorded) (new_transfer_row t) rows.transfers.items, map-changed account_row_key (λ a. a.created) t.credit_account_id (on_credits (gained closing_credit t)) (changed account_row_key t.debit_account_id (on_debits (gained closing_debit t)) rows.accounts.items) (λ y. refl), map-changed account_row_key (λ a. a.created) t.debit_account_id (on_debits (gained closing_debit t)) rows.accounts.items (λ y. refl)) refl

    pub ledger_with_single : (after : List Timeout) → transfer_at B t.id ≡ None → resolves t ≡ false → rows.time < t.timestamp + 1000000000 → FoundPair B t → IsIndex more after → AreLedgerRows later more rows.failed.items rows.keeps_failed after rows.time
    ledger_with_single after fresh single stamped moves_t index = record {
      kept = rw (is, added) (record {
        sums = sums_gained rows.accounts.items rows.transfers.items t rising_accounts (takes_debit rows.accounts.items rows.transfers.items rows.failed.items rows.keeps_failed rows.time ledger.kept.states t moves_t ledger.kept.sums) (takes_credit rows.accounts.items rows.transfers.items rows.failed.items rows.keeps_failed rows.time ledger.kept.states t moves_t ledger.kept.sums) ledger.kept.sums;
        states = states_added rows.transfers.items rows.time t ledger.kept.states (no_row transfer_key (λ t. t.recorded) t.id rows.transfers.items fresh) single stamped;
      });
      index = index;
      unused = ledger.unused;
      sound = subst Sound (sym books_with_single) (sound_moved B t ledger.sound moves_t);
      rising = subst IdsRise (sym books_with_single) (rise_with B t fresh ledger.rising);
    }

  -- a post or void recorded
  module _ (p : TransferRow) (r : Transfer) (it : IsResolution rows p r) where
    abbrev left : List TransferRow
    left = replaced transfer_row_key (settled (state_given_by r) p) rows.transfers.items

    names : r.pending_id ≡ p.recorded.id
    names = sym (found_key transfer_row_key r.pending_id p rows.transfers.items it.found)

    pub by_key : find (λ q. transfer_row_key q == transfer_row_key p) rows.transfers.items ≡ Some p
    by_key = refound transfer_row_key r.pending_id p rows.transfers.items it.found

    the_one : it.pending.p ≡ p.recorded
    the_one = let e : Some it.pending.p ≡ Some p.recorded = sym it.pending.named ∙ find-map (λ t. eqb t.id r.pending_id) (λ t. t.recorded) rows.transfers.items ∙ ap (option_map (λ t. t.recorded)) it.found in cc

    it_holds : row_holds p ≡ true
    it_holds =
        holds_stand rows.accounts.items rows.transfers.items rows.failed.items rows.keeps_failed rows.time p (each-find (HasState rows.transfers.items rows.time) (λ q. q.recorded.id == r.pending_id) p rows.transfers.items ledger.kept.states it.found)
        ∙ ap (holds B) (sym the_one) ∙ it.pending.held

    over : is_open (state_given_by r) ≡ false
    over = elim (posts r) as (λ b. is_open (if b then Posted else Voided) ≡ false) [ true ↦ refl | false ↦ refl ]

    -- its accounts are those of p
    pub same_debit : r.debit_account_id ≡ p.recorded.debit_account_id
    same_debit = it.pending.debit_same ∙ ap (λ t. t.debit_account_id) the_one

    pub same_credit : r.credit_account_id ≡ p.recorded.credit_account_id
    same_credit = it.pending.credit_same ∙ ap (λ t. t.credit_account_id) the_one

    pub apart : r.debit_account_id ≢ r.credit_account_id
    apart same = accounts_apart B ledger.sound rows.accounts.items rows.transfers.items r.pending_id p refl refl it.found (sym same_debit ∙ same ∙ same_credit)

    pub debit_there : IsSome (account_row_at rows.accounts.items r.debit_account_id)
    debit_there = rw same_debit (debit_party B ledger.sound rows.accounts.items rows.transfers.items r.pending_id p refl refl it.found)

    pub credit_there : IsSome (account_row_at rows.accounts.items r.credit_account_id)
    credit_there = rw same_credit (credit_party B ledger.sound rows.accounts.items rows.transfers.items r.pending_id p refl refl it.found)

    at_most : r.amount ≤ p.recorded.amount
    at_most = omega (arith, it.pending.at_most, ap (λ t. t.amount) the_one)

    -- the sides of both accounts have the amount, and fit
    side_can : (side : Transfer → ℕ) (closes : Transfer → Bool) (id : ℕ) (s : Side) → HasSide side closes rows.transfers.items id s → id ≡ side p.recorded → CanSettle p.recorded r s
    side_can side closes id s has same = record {
      enough = held_enough side closes rows.transfers.items p (state_given_by r) by_key it_holds over s (subst (λ k. HasSide side closes rows.transfers.items k s) same has);
      fit = has.fit;
      at_most = at_most;
    }

    pub can_debit : (a : AccountRow) → account_row_at rows.accounts.items r.debit_account_id ≡ Some a → CanSettle p.recorded r a.debits
    can_debit a there =
        side_can debit closing_debit a.created.id a.debits (each-find (HasSums rows.transfers.items) (λ a. a.created.id == r.debit_account_id) a rows.accounts.items ledger.kept.sums there).debits
        (found_key account_row_key r.debit_account_id a rows.accounts.items there ∙ same_debit)

    pub can_credit : (a : AccountRow) → account_row_at rows.accounts.items r.credit_account_id ≡ Some a → CanSettle p.recorded r a.credits
    can_credit a there =
        side_can credit closing_credit a.created.id a.credits (each-find (HasSums rows.transfers.items) (λ a. a.created.id == r.credit_account_id) a rows.accounts.items ledger.kept.sums there).credits
        (found_key account_row_key r.credit_account_id a rows.accounts.items there ∙ same_credit)

    pub fresh_still : find (λ q. q.recorded.id == r.id) left ≡ None
    fresh_still = no_row transfer_key (λ t. t.recorded) r.id left
        (ap (find (λ t. transfer_key t == r.id)) (map-replaced transfer_row_key (λ t. t.recorded) (settled (state_given_by r) p) p rows.transfers.items by_key refl) ∙ it.fresh)

    -- its timeout leaves the index, and a post or void adds no timeout
    pub listed_before : times_out p ≡ true → IsListed rows.timeouts.items p
    listed_before = each-find (λ t. times_out t ≡ true → IsListed rows.timeouts.items t) (λ q. q.recorded.id == r.pending_id) p rows.transfers.items ledger.index.all_listed it.found

    pub not_timed : times_out (new_transfer_row r) ≡ false
    not_timed = let single = it.pending.not_pending in rw single refl

    pub index_with_resolver : IsIndex (put transfer_row_key (new_transfer_row r) left) (listed (new_transfer_row r) (unlisted p rows.timeouts)).items
    index_with_resolver =
        index_added left (unlisted p rows.timeouts) (index_closed rows.transfers.items rows.timeouts ledger.index p (state_given_by r) by_key over (rising_transfers rows.transfers.items ledger.rising.transfers))
        (new_transfer_row r) fresh_still (λ is. absurd (let never = not_timed in cc)) (λ is. absurd (let never = not_timed in cc))

    module _ (later : List AccountRow) (more : List TransferRow) (is : later ≡ accounts_released_and_gained p.recorded r rows.accounts.items) (added : more ≡ put transfer_row_key (new_transfer_row r) left) where
      pub books_with_resolver : books_of later more rows.failed.items rows.keeps_failed rows.time ≡ record B { transfers = put transfer_key r B.transfers }
      books_with_resolver = rw (is, added, map-put transfer_key (λ t. t.recorded) (new_transfer_row r) left, map-replaced transfer_row_key (λ t. t.recorded) (settled (state_given_by r) p) p rows.transfers.items by_key refl, map-changed account_row_key (λ a. a.created) r.credit_account_id (on_credits (released_and_gained closing_credit p.recorded r)) (changed account_row_key r.debit_account_id (on_debits (released_and_gained closing_debit p.recorded r)) rows.accounts.items) (λ y. refl), map-changed account_row_key (λ a. a.created) r.debit_account_id (on_debits (released_and_gained closing_debit p.recorded r)) rows.accounts.items (λ y. refl)) refl

      pub ledger_with_resolver : (after : List Timeout) → IsIndex more after → AreLedgerRows later more rows.failed.items rows.keeps_failed after rows.time
      ledger_with_resolver after index = record {
        kept = rw (is, added) (record {
          sums = sums_resolved rows.accounts.items rows.transfers.items p r (state_given_by r) rising_accounts by_key it_holds over it.pending.not_pending same_debit same_credit at_most ledger.kept.sums;
          states = states_resolved rows.transfers.items rows.time p r ledger.kept.states by_key it_holds names it.is_resolver (rising_transfers rows.transfers.items ledger.rising.transfers) it.pending.not_pending;
        });
        index = index;
        unused = ledger.unused;
        sound = subst Sound (sym books_with_resolver) (sound_resolved B r ledger.sound it.is_resolver it.pending);
        rising = subst IdsRise (sym books_with_resolver) (rise_with B r it.fresh ledger.rising);
      }

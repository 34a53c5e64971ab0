-- What the ledger stores for the books, and that it agrees with the books.
use Rattle.std.specs.Prelude.{ℕ, Bool, true, false, not, ◌≡◌, ◌<◌, ◌≤◌, ◌+◌, ◌-◌, ◌&&◌, ◌||◌, ◌==◌, List, [], map, sum_by, if◌then◌else◌, find, IsSome, bit_or, Some, None}
use Rattle.tb_records.specs.declared.limits.TheConstants.{NANOSECONDS_PER_SECOND, AMOUNT_MAX, LAST_MOMENT}
use Rattle.tb_records.specs.declared.records.Account.{Account}
use Rattle.tb_records.specs.declared.records.Transfer.{Transfer}
use Rattle.tb_records.specs.Ordered.{Each, changed}
use Rattle.tb_ledger.specs.declared.tables.transfers.State.{State}
use Rattle.tb_ledger.specs.declared.tables.transfers.State.TheVariants.{Open, Posted, Voided}
use Rattle.tb_ledger.specs.declared.tables.accounts.Side.{Side}
use Rattle.tb_ledger.specs.declared.tables.accounts.AccountRow.{AccountRow}
use Rattle.tb_ledger.specs.declared.tables.transfers.TransferRow.{TransferRow}
use Rattle.tb_ledger.specs.declared.tables.rows.Rows.{Rows}
use Rattle.tb_ledger.specs.declared.tables.timeouts.Timeout.{Timeout}
use Rattle.tb_ledger.specs.Books.{Books, closed, pending, posts, moves, resolves, is_open, is_due, state_of, expires_at, closing_debit, closing_credit}
use Rattle.tb_ledger.specs.private.Timeouts.{timeout_key, AreTimeouts, with_timeout, without_timeout}
use Rattle.tb_ledger.specs.Sound.{IdsRise, Sound}
use Rattle.tb_ledger.specs.Tables.{Stored}
use Rattle.tb_ledger.specs.Sides.{debit, credit, share}

abbrev pub account_row_key : AccountRow → ℕ
account_row_key a = a.created.id

abbrev pub transfer_row_key : TransferRow → ℕ
transfer_row_key t = t.recorded.id

-- the books that are stored: by profile 2 with the failed ids
abbrev pub books_of : List AccountRow → List TransferRow → List ℕ → Bool → ℕ → Books
books_of accounts transfers failed keeps_failed time = record {
  accounts = map (λ a. a.created) accounts;
  transfers = map (λ t. t.recorded) transfers;
  failed = (if keeps_failed then Some failed else None);
  time = time;
}

abbrev pub books_in : {A : Type 0} → Rows A → Books
books_in rows = books_of rows.accounts.items rows.transfers.items rows.failed.items rows.keeps_failed rows.time

-- the part of the books from which the states of transfers are read
abbrev pub books_at : List TransferRow → ℕ → Books
books_at transfers time = books_of [] transfers [] false time

-- an account as it is now

abbrev pub row_closed : AccountRow → Bool
row_closed a = closed a.created || a.debits.held_closed || a.credits.held_closed

abbrev pub row_now : AccountRow → Account
row_now a = record (a.created) {
  debits_pending = a.debits.pending;
  debits_posted = a.debits.posted;
  credits_pending = a.credits.pending;
  credits_posted = a.credits.posted;
  flags = (if row_closed a then bit_or a.created.flags 32 else a.created.flags);
}

-- the sums of a side

abbrev pub row_holds : TransferRow → Bool
row_holds t = pending t.recorded && is_open t.state

abbrev pub bit : Bool → ℕ
bit b = if b then 1 else 0

-- what a transfer adds to a side of the account id
abbrev pub pending_share : (Transfer → ℕ) → ℕ → TransferRow → ℕ
pending_share side id t = share side id t.recorded (row_holds t)

abbrev pub posted_share : (Transfer → ℕ) → ℕ → TransferRow → ℕ
posted_share side id t = share side id t.recorded (moves t.recorded)

abbrev pub closing_share : (Transfer → ℕ) → (Transfer → Bool) → ℕ → TransferRow → ℕ
closing_share side closes id t = if (side t.recorded == id) && (row_holds t && closes t.recorded) then 1 else 0

-- a side of the account id: its sums, and whether a transfer holds it closed (at most one does)
pub record HasSide (side : Transfer → ℕ) (closes : Transfer → Bool) (transfers : List TransferRow) (id : ℕ) (s : Side) : Type 0 where
  pub pending : s.pending ≡ sum_by (pending_share side id) transfers
  pub posted : s.posted ≡ sum_by (posted_share side id) transfers
  pub held_closed : bit s.held_closed ≡ sum_by (closing_share side closes id) transfers
  pub fit : s.pending + s.posted ≤ AMOUNT_MAX

-- the debit side by some rows, the credit side by others: the state between the two changes of a pair
pub record HasBoth (ds cs : List TransferRow) (a : AccountRow) : Type 0 where
  pub debits : HasSide debit closing_debit ds a.created.id a.debits
  pub credits : HasSide credit closing_credit cs a.created.id a.credits

abbrev pub HasSums : List TransferRow → AccountRow → Type 0
HasSums transfers a = HasBoth transfers transfers a

-- a pending transfer's state is that of the books, and the transfer that a post or void names exists
pub record HasState (transfers : List TransferRow) (time : ℕ) (t : TransferRow) : Type 0 where
  pub state_is : pending t.recorded ≡ true → t.state ≡ state_of (books_at transfers time) t.recorded
  pub named : resolves t.recorded ≡ true → IsSome (find (λ p. p.recorded.id == t.recorded.pending_id) transfers)

pub record AreKept (accounts : List AccountRow) (transfers : List TransferRow) (time : ℕ) : Type 0 where
  pub sums : Each (HasSums transfers) accounts
  pub states : Each (HasState transfers time) transfers

-- a transfer that holds until it is resolved or its timeout ends it
abbrev pub times_out : TransferRow → Bool
times_out t = row_holds t && not (t.recorded.timeout == 0)

abbrev pub timeout_of : TransferRow → Timeout
timeout_of t = record { at = expires_at t.recorded; id = t.recorded.id }

-- its timeout is in the list
pub record IsListed (timeouts : List Timeout) (t : TransferRow) : Type 0 where
  pub in_range : expires_at t.recorded ≤ LAST_MOMENT
  pub there : find (λ d. timeout_key d == timeout_key (timeout_of t)) timeouts ≡ Some (timeout_of t)

-- d is the timeout of a transfer that times out
pub record IsTimeout (transfers : List TransferRow) (d : Timeout) : Type 0 where
  pub t : TransferRow
  pub there : find (λ t. t.recorded.id == d.id) transfers ≡ Some t
  pub is_timed : times_out t ≡ true
  pub same : timeout_of t ≡ d

-- the index of expiries: exactly a timeout for each transfer that times out, in order
pub record IsIndex (transfers : List TransferRow) (timeouts : List Timeout) : Type 0 where
  pub all_listed : Each (λ t. times_out t ≡ true → IsListed timeouts t) transfers
  pub all_timed : Each (IsTimeout transfers) timeouts
  pub ordered : AreTimeouts timeouts

-- timeouts and their spare rows, with that of t if it times out, and without it
abbrev pub listed : TransferRow → Stored Timeout → Stored Timeout
listed t ts = if times_out t then with_timeout (timeout_of t) ts else ts

abbrev pub unlisted : TransferRow → Stored Timeout → Stored Timeout
unlisted t ts = if times_out t then without_timeout (timeout_of t) ts else ts

-- if t times out, there is capacity for its timeout, which is not in the list
pub record CanList (t : TransferRow) (ts : Stored Timeout) : Type 0 where
  pub in_range : expires_at t.recorded ≤ LAST_MOMENT
  pub capacity : 0 < ts.spare
  pub absent : find (λ d. timeout_key d == timeout_key (timeout_of t)) ts.items ≡ None

-- it holds, and its timeout has passed at T
abbrev pub lapses : ℕ → TransferRow → Bool
lapses T t = row_holds t && is_due T t.recorded

-- what stays true of the ledger's rows
pub record AreLedgerRows (accounts : List AccountRow) (transfers : List TransferRow) (failed : List ℕ) (keeps_failed : Bool) (timeouts : List Timeout) (time : ℕ) : Type 0 where
  pub kept : AreKept accounts transfers time
  pub index : IsIndex transfers timeouts
  -- profile 1 keeps no failed ids
  pub unused : keeps_failed ≡ false → failed ≡ []
  pub sound : Sound (books_of accounts transfers failed keeps_failed time)
  pub rising : IdsRise (books_of accounts transfers failed keeps_failed time)

abbrev pub AreRowsKept : {A : Type 0} → Rows A → Type 0
AreRowsKept rows = AreLedgerRows rows.accounts.items rows.transfers.items rows.failed.items rows.keeps_failed rows.timeouts.items rows.time

-- no timeout of a transfer with this stamp has passed yet, because the shortest timeout is a second
abbrev pub PrecedesTimeouts : {A : Type 0} → Rows A → ℕ → Type 0
PrecedesTimeouts rows stamp = rows.time < stamp + NANOSECONDS_PER_SECOND

-- the changes of a side: a transfer is added, and the amount of a pending one is removed

abbrev pub gained : (Transfer → Bool) → Transfer → Side → Side
gained closes t s = record {
  pending = s.pending + (if pending t then t.amount else 0);
  posted = s.posted + (if moves t then t.amount else 0);
  held_closed = s.held_closed || (pending t && closes t);
}

abbrev pub released : (Transfer → Bool) → Transfer → Side → Side
released closes p s = record { pending = s.pending - p.amount; posted = s.posted; held_closed = s.held_closed && not (closes p) }

-- p is removed, and r, which resolves it, is added
abbrev pub released_and_gained : (Transfer → Bool) → Transfer → Transfer → Side → Side
released_and_gained closes p r s = gained closes r (released closes p s)

abbrev pub settled : State → TransferRow → TransferRow
settled s p = record p { state = s }

abbrev pub on_debits : (Side → Side) → AccountRow → AccountRow
on_debits f a = record a { debits = f a.debits }

abbrev pub on_credits : (Side → Side) → AccountRow → AccountRow
on_credits f a = record a { credits = f a.credits }

abbrev pub accounts_gained : Transfer → List AccountRow → List AccountRow
accounts_gained t accounts = changed account_row_key t.credit_account_id (on_credits (gained closing_credit t)) (changed account_row_key t.debit_account_id (on_debits (gained closing_debit t)) accounts)

abbrev pub accounts_released : Transfer → List AccountRow → List AccountRow
accounts_released p accounts = changed account_row_key p.credit_account_id (on_credits (released closing_credit p)) (changed account_row_key p.debit_account_id (on_debits (released closing_debit p)) accounts)

abbrev pub accounts_released_and_gained : Transfer → Transfer → List AccountRow → List AccountRow
accounts_released_and_gained p r accounts = changed account_row_key r.credit_account_id (on_credits (released_and_gained closing_credit p r)) (changed account_row_key r.debit_account_id (on_debits (released_and_gained closing_debit p r)) accounts)

-- the row of a new transfer: if it is pending, it is open
abbrev pub new_transfer_row : Transfer → TransferRow
new_transfer_row t = record { recorded = t; state = Open }

-- the state that a post or void gives to its pending transfer
abbrev pub state_given_by : Transfer → State
state_given_by r = if posts r then Posted else Voided

-- a side can take t: the sums fit, and if t closes it, nothing holds it closed
abbrev pub CanTake : (Transfer → Bool) → Transfer → Side → Type 0
CanTake closes t s = (s.pending + s.posted + t.amount ≤ AMOUNT_MAX) × ((pending t && closes t) ≡ true → s.held_closed ≡ false)

-- an account without sums and reserved bytes, as each one is created
abbrev pub blank : Account → Account
blank a = record a { debits_pending = 0; debits_posted = 0; credits_pending = 0; credits_posted = 0; reserved = 0 }

-- the row of a new account
abbrev pub new_side : Side
new_side = record { pending = 0; posted = 0; held_closed = false }

abbrev pub new_row : Account → AccountRow
new_row a = record { created = a; debits = new_side; credits = new_side }

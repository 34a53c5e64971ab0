-- What events require of a batch in progress, and what they leave.
use Rattle.std.specs.Prelude.{ℕ, ◌≡◌, ◌+◌, ◌*◌, ◌^◌, ◌<◌, ◌≤◌, ◌==◌, true, map, length, find, Some, None, Result, OnOk, OnErr, Bool, ◌&&◌, if◌then◌else◌, List, ◌∷◌, ◌++◌, drop, replicate}
use Rattle.tb_records.specs.declared.records.Transfer.{Transfer}
use Rattle.tb_ledger.specs.declared.tables.rows.Rows.{Rows}
use Rattle.tb_ledger.specs.declared.tables.work.Work.{Work}
use Rattle.tb_ledger.specs.declared.tables.work.TheConstants.{UNDOS_PER_EVENT}
use Rattle.tb_ledger.specs.declared.tables.transfers.TransferRow.{TransferRow}
use Rattle.tb_ledger.specs.Batches.{Kind, Outcome, chain_failed, chain_open, chain_after, chains_after, chains, timed_from, undone}
use Rattle.tb_ledger.specs.Books.{Books, resolves, transfer_at}
use Rattle.tb_ledger.specs.private.Capacity.{Capacity, capacity_of, Uses}
use Rattle.tb_ledger.specs.private.Found.{FoundPending, Judges}
use Rattle.tb_ledger.specs.Kept.{books_in, AreRowsKept, PrecedesTimeouts}
use Rattle.tb_ledger.specs.private.Noted.{HasCapacityFor}
use Rattle.tb_ledger.specs.private.UndoLog.{GrowsUndoLog, LeadsBack, chained}
use Rattle.tb_records.specs.Ordered.{put}
use Rattle.tb_records.specs.TransferResults.{transfer_result_code}
use Rattle.tb_records.specs.declared.transfer_results.CreateTransferResult.{CreateTransferResult}
use Rattle.tb_ledger.specs.private.Settlings.{closed_code}
use Rattle.tb_ledger.specs.Sound.{transfer_key}

-- ready for one event with the stamp
pub record IsPrepared {A : Type 0} (HasCapacity : ℕ → Capacity → Type 0) (work : Work A) (stamp : ℕ) : Type 0 where
  pub kept : AreRowsKept work.rows
  pub capacity : HasCapacity 1 (capacity_of work.rows)
  pub stamped : PrecedesTimeouts work.rows stamp
  pub log : HasCapacityFor UNDOS_PER_EVENT work.undo_log

-- ready for n events in a row, the first with the stamp
pub record IsPreparedFor {A : Type 0} (HasCapacity : ℕ → Capacity → Type 0) (n : ℕ) (work : Work A) (stamp : ℕ) : Type 0 where
  pub kept : AreRowsKept work.rows
  pub capacity : HasCapacity n (capacity_of work.rows)
  pub stamped : PrecedesTimeouts work.rows stamp
  pub in_range : stamp + n < 2 ^ 64
  pub log : UNDOS_PER_EVENT * n ≤ work.undo_log.capacity
  pub results : length work.results.items + n ≤ work.results.capacity

-- after one event: valid rows, from which the log leads back; failed ids, the time and the results so far stay
pub record Leaves {A : Type 0} (work later : Work A) : Type 0 where
  pub kept : AreRowsKept later.rows
  pub grows : GrowsUndoLog UNDOS_PER_EVENT (LeadsBack (chained work.rows) (chained later.rows)) work.undo_log later.undo_log
  pub failed : later.rows.failed ≡ work.rows.failed
  pub time : later.rows.time ≡ work.rows.time
  pub capacity : Uses 1 (capacity_of work.rows) (capacity_of later.rows)
  pub results : later.results ≡ work.results

-- after n events: valid rows, at the same time, and at most n more results
pub record LeavesAfter {A : Type 0} (n : ℕ) (work later : Work A) : Type 0 where
  pub kept : AreRowsKept later.rows
  pub time : later.rows.time ≡ work.rows.time
  pub capacity : Uses n (capacity_of work.rows) (capacity_of later.rows)
  pub log : later.undo_log.capacity ≡ work.undo_log.capacity
  pub results_len : length later.results.items ≤ length work.results.items + n
  pub results_capacity : later.results.capacity ≡ work.results.capacity

-- a code decides on an event: if it is accepted it leaves these books, and if it is refused it changes nothing
pub record Decides {R A : Type 0} (code_of : R → ℕ) (code : ℕ) (books : Books) (work : Work A) (result : Result (Unit {0}) R) (later : Work A) : Type 0 where
  pub judged : Judges code_of result code
  pub done : OnOk result (books_in later.rows ≡ books)
  pub refused : OnErr result (later ≡ work)
  pub leaves : Leaves work later

-- an event is taken at a time: its verdict decides, and if it is accepted it is recorded
abbrev pub TakesEvent : {E R A : Type 0} → Kind E → (R → ℕ) → Work A → E → ℕ → Result (Unit {0}) R → Work A → Type 0
TakesEvent kind code_of work event time = Decides code_of (kind.verdict (books_in work.rows) event time) (kind.recorded (books_in work.rows) event time) work

-- an event of a chain is taken at a time: if it is linked and the last one the chain is open, otherwise its verdict decides
abbrev pub TakesInChain : {E R A : Type 0} → Kind E → (R → ℕ) → Bool → Work A → E → ℕ → Result (Unit {0}) R → Work A → Type 0
TakesInChain kind code_of last work event time =
    Decides code_of (if last && kind.linked event then chain_open else kind.verdict (books_in work.rows) event time) (kind.recorded (books_in work.rows) event time) work

-- a post or void of the pending transfer p, filled and stamped: its accounts decide whether they are open, and if it is accepted it is recorded
abbrev pub TakesResolution : {A : Type 0} → Work A → TransferRow → Transfer → Result (Unit {0}) CreateTransferResult → Work A → Type 0
TakesResolution work p r =
    let B = books_in work.rows in
    Decides transfer_result_code (closed_code B r p.recorded) (record B { transfers = put transfer_key r B.transfers }) work

-- the chain, or the chains, of events of which the first has this timestamp
abbrev pub chain_from : {E : Type 0} → Kind E → Books → ℕ → List E → Outcome
chain_from kind B stamp events = chain_after kind B (timed_from stamp events)

abbrev pub chains_from : {E : Type 0} → Kind E → Books → ℕ → List E → Outcome
chains_from kind B stamp events = chains_after kind B (chains kind (timed_from stamp events))

-- the codes of a chain whose event at this place was refused: chain_failed before it, its own code, and those of events that another event's failure
-- undoes
abbrev pub broken_codes : {E : Type 0} → Kind E → ℕ → ℕ → List E → List ℕ
broken_codes kind place code events = replicate place chain_failed ++ code ∷ undone kind (timed_from 0 (drop (place + 1) events))

-- a refusal that is noted changes only failed ids
pub record StaysButFailed {A : Type 0} (rows later : Rows A) : Type 0 where
  pub accounts : later.accounts ≡ rows.accounts
  pub transfers : later.transfers ≡ rows.transfers
  pub timeouts : later.timeouts ≡ rows.timeouts
  pub time : later.time ≡ rows.time

-- r is a post or void, filled, whose id is free, and p is the row of the pending transfer that it names
pub record IsResolution {A : Type 0} (rows : Rows A) (p : TransferRow) (r : Transfer) : Type 0 where
  pub fresh : transfer_at (books_in rows) r.id ≡ None
  pub found : find (λ row. row.recorded.id == r.pending_id) rows.transfers.items ≡ Some p
  pub plain : r.flags < 2 ^ 8
  pub is_resolver : resolves r ≡ true
  pub pending : FoundPending (books_in rows) r

-- pending transfers have ended: records and failed ids stay, and the removed timeouts have returned their rows
pub record KeepsRecords {A : Type 0} (rows later : Rows A) : Type 0 where
  pub accounts : map (λ a. a.created) later.accounts.items ≡ map (λ a. a.created) rows.accounts.items
  pub transfers : map (λ t. t.recorded) later.transfers.items ≡ map (λ t. t.recorded) rows.transfers.items
  pub accounts_capacity : later.accounts.spare ≡ rows.accounts.spare
  pub transfers_capacity : later.transfers.spare ≡ rows.transfers.spare
  pub timeouts_capacity : rows.timeouts.spare ≤ later.timeouts.spare
  pub failed : later.failed ≡ rows.failed
  pub keeps_failed : later.keeps_failed ≡ rows.keeps_failed

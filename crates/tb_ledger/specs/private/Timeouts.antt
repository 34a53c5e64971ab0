-- The timeouts of pending transfers, in the order in which they expire.
use Rattle.std.specs.Prelude.{ℕ, ◌≡◌, ◌+◌, ◌-◌, ◌*◌, ◌≤◌, ◌<◌, ◌==◌, List, map, find, Option, Some, None}
use Rattle.std.specs.List.{slice_get}
use Rattle.tb_records.specs.Ordered.{put, taken_out, Each, Rising}
use Rattle.tb_records.specs.declared.limits.TheConstants.{AMOUNT_MAX}
use Rattle.avl_tree.specs.Map.{Map, entries}
use Rattle.tb_ledger.specs.declared.tables.timeouts.Timeout.{Timeout}
use Rattle.tb_ledger.specs.Tables.{freed, pairs_in, Stored}

-- timeouts are ordered by time, and by id if times are equal
abbrev pub timeout_key : Timeout → ℕ
timeout_key d = d.at * 340282366920938463463374607431768211456 + d.id

-- the timeout of a key of the tree
abbrev pub timeout_at : {V : Type 0} → (ℕ × ℕ) × V → Timeout
timeout_at e = record { at = e.0.0; id = e.0.1 }

abbrev pub timeouts_of : {V : Type 0} → List ((ℕ × ℕ) × V) → List Timeout
timeouts_of es = map timeout_at es

abbrev pub timeouts_in : {V : Type 0} → Option (Map (ℕ × ℕ) V) → List Timeout
timeouts_in m = timeouts_of (pairs_in m)

-- by rising key, and ids are in range
pub record AreTimeouts (ds : List Timeout) : Type 0 where
  pub rising : Rising timeout_key ds
  pub fit : Each (λ d. d.id ≤ AMOUNT_MAX) ds

-- timeouts and their spare rows, with one timeout more
abbrev pub with_timeout : Timeout → Stored Timeout → Stored Timeout
with_timeout d ts = record { items = put timeout_key d ts.items; spare = ts.spare - 1 }

-- without one, whose row is spare again
abbrev pub without_timeout : Timeout → Stored Timeout → Stored Timeout
without_timeout d ts = record { items = taken_out timeout_key (timeout_key d) ts.items; spare = ts.spare + freed (find (λ e. timeout_key e == timeout_key d) ts.items) }

-- a timeout that is due at the time was removed, or no timeout is due
abbrev pub TakesDue : ℕ → Stored Timeout → Option Timeout → Stored Timeout → Type 0
TakesDue time ts None later = (later ≡ ts) × Each (λ d. time < d.at) ts.items
TakesDue time ts (Some d) later = (d.at ≤ time) × (find (λ e. timeout_key e == timeout_key d) ts.items ≡ Some d) × (later ≡ without_timeout d ts)

-- the first of the timeouts, if it is due at the time; otherwise no timeout is due
abbrev pub IsFirstDue : ℕ → List Timeout → Option Timeout → Type 0
IsFirstDue time ds None = Each (λ d. time < d.at) ds
IsFirstDue time ds (Some d) = (d.at ≤ time) × (slice_get ds 0 ≡ Some d)

-- the timeouts that a tree keeps, and its spare nodes
abbrev pub stored_timeouts : {V : Type 0} → Map (ℕ × ℕ) V → Stored Timeout
stored_timeouts m = record { items = timeouts_of (entries m); spare = m.spare }

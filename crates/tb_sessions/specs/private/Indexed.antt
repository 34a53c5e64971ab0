-- The rows of the sessions by client, and next to them each client by a commit: its row's, or an earlier one.
use Rattle.std.specs.Prelude.{ℕ, ◌≡◌, ◌≢◌, ◌+◌, ◌<◌, ◌≤◌, length, Option, Some}
use Rattle.std.specs.Ordering.{nat_cmp}
use Rattle.std.specs.List.{slice_get}
use Rattle.std.specs.List.Sorted.{IsStrictlySortedBy}
use Rattle.std.specs.Map.{lookup, keys_of}
use Rattle.std.specs.BTreeMap.{is_at}
use Rattle.avl_tree.specs.Map.{Map, entries}
use Rattle.tb_records.specs.Ordered.{Each, replaced}
use Rattle.tb_sessions.specs.declared.rows.Row.{Row}
use Rattle.tb_sessions.specs.Admission.{Table}
use Rattle.tb_sessions.specs.Judged.{client_of, row_of}

-- the row of a client
abbrev pub kept_row : Map ℕ Row → ℕ → Option Row
kept_row rows client = lookup (is_at (nat_cmp client)) (entries rows)

-- the client that is at a commit
abbrev pub client_at_commit : Map ℕ ℕ → ℕ → Option ℕ
client_at_commit clients commit = lookup (is_at (nat_cmp commit)) (entries clients)

-- each client with a row is at one commit, no later than its row's; the commit that a client is at, and the commit of its row, belong to no other
-- client
pub record IsLinked (kept_row : ℕ → Option Row) (client_at_commit : ℕ → Option ℕ) : Type 0 where
  pub noted : (client : ℕ) (row : Row) → kept_row client ≡ Some row → (commit : ℕ) × (commit ≤ row.commit) × (client_at_commit commit ≡ Some client)
  pub kept : (commit client : ℕ) → client_at_commit commit ≡ Some client → (row : Row) × (kept_row client ≡ Some row) × (commit ≤ row.commit)
  pub once : (commit other client : ℕ) → client_at_commit commit ≡ Some client → client_at_commit other ≡ Some client → commit ≡ other
  pub apart : (client other : ℕ) (row : Row) → kept_row client ≡ Some row → client_at_commit row.commit ≡ Some other → other ≡ client
  pub differ : (client other : ℕ) (row beside : Row) → kept_row client ≡ Some row → kept_row other ≡ Some beside → row.commit ≡ beside.commit → client ≡ other

-- what holds of the table's two maps: rows under their own clients, linked with the clients by commit, and capacity in both
pub record IsIndexed (clients_max : ℕ) (rows : Map ℕ Row) (clients : Map ℕ ℕ) : Type 0 where
  pub own : Each (λ e. client_of e.1 ≡ e.0) (entries rows)
  pub rows_rise : IsStrictlySortedBy nat_cmp (keys_of (entries rows))
  pub commits_rise : IsStrictlySortedBy nat_cmp (keys_of (entries clients))
  pub linked : IsLinked (kept_row rows) (client_at_commit clients)
  pub even : length (entries clients) ≡ length (entries rows)
  pub some_capacity : 0 < clients_max
  pub not_over : length (entries rows) ≤ clients_max
  pub rows_fit : clients_max ≤ length (entries rows) + rows.spare
  pub clients_fit : clients_max ≤ length (entries clients) + clients.spare

-- the first of the clients is at its row's commit
abbrev pub IsFirstIndexed : Map ℕ Row → Map ℕ ℕ → Type 0
IsFirstIndexed rows clients = (commit client : ℕ) (row : Row) → slice_get (entries clients) 0 ≡ Some (commit, client) → kept_row rows client ≡ Some row → row.commit ≡ commit

-- the first of the clients is at an earlier commit than its row's
pub record IsFirstBehind (rows : Map ℕ Row) (clients : Map ℕ ℕ) (later : ℕ) : Type 0 where
  pub commit : ℕ
  pub client : ℕ
  pub row : Row
  pub first : slice_get (entries clients) 0 ≡ Some (commit, client)
  pub here : kept_row rows client ≡ Some row
  pub is : row.commit ≡ later
  pub behind : later ≢ commit

-- the same, and if the table is full the first of the clients is the one whose session ends next
pub record FindsOldest (clients_max : ℕ) (rows : Map ℕ Row) (clients : Map ℕ ℕ) : Type 0 where
  pub indexed : IsIndexed clients_max rows clients
  pub first : clients_max ≤ length (entries rows) → IsFirstIndexed rows clients

-- a row took the place of its client's row in the table, and that row was returned in exchange
abbrev pub ExchangesSession : Table → Row → Table → Row → Type 0
ExchangesSession before row after left = (row_of before.rows row.client ≡ Some left) × (after ≡ record before { rows = replaced client_of row before.rows })

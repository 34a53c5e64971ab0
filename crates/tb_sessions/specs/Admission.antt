-- How a row is added to the table: in the place of its client's row, or next to the others; the row of least commit may have to go for it.
use Rattle.std.specs.Prelude.{ℕ, nat_le, nat_lt, List, length, Option, Some, None, if◌then◌else◌, find}
use Rattle.std.specs.List.{list_all}
use Rattle.std.specs.Option.{is_some}
use Rattle.tb_records.specs.Ordered.{put, replaced, taken_out}
use Rattle.tb_sessions.specs.declared.rows.Row.{Row}
use Rattle.tb_sessions.specs.Judged.{client_of, row_of}

-- the sessions: how many there may be, and a row for each
pub record Table : Type 0 where
  pub clients_max : ℕ
  pub rows : List Row  -- by rising client

-- the row whose reply has the least commit number
abbrev pub oldest : List Row → Option Row
oldest rows = find (λ row. list_all (λ other. nat_le row.commit other.commit) rows) rows

-- the row that is evicted by a row of a client without one
abbrev pub driven_out : ℕ → List Row → Option Row
driven_out clients_max rows = if nat_lt (length rows) clients_max then None else oldest rows

abbrev pub without : Option Row → List Row → List Row
without None rows = rows
without (Some gone) rows = taken_out client_of (client_of gone) rows

-- the rows after a row is added
abbrev pub admitted : ℕ → List Row → Row → List Row
admitted clients_max rows row =
    if is_some (row_of rows (client_of row))
    then replaced client_of row rows
    else put client_of row (without (driven_out clients_max rows) rows)

-- the row that leaves for it
abbrev pub leaving : ℕ → List Row → Row → Option Row
leaving clients_max rows row =
    if is_some (row_of rows (client_of row))
    then row_of rows (client_of row)
    else driven_out clients_max rows

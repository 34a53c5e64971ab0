-- What holds of each row through an admission.
use Rattle.std.proofs.Common.{◌≡◌, ℕ, ◌==◌, true, false, cond, List, Option, Some, None, is_some}
use Rattle.tb_records.specs.Ordered.{Each, put, replaced, taken_out}
use Rattle.tb_records.proofs.ByKey.{each-put, each-replaced_all, each-taken_out, none-found, none-fails}
use Rattle.tb_sessions.specs.declared.rows.Row.{Row}
use Rattle.tb_sessions.specs.Judged.{client_of, row_of}
use Rattle.tb_sessions.specs.Admission.{driven_out, without, admitted}

pub each_without : (P : Row → Type 0) (gone : Option Row) (rows : List Row) → Each P rows → Each P (without gone rows)
each_without P None rows each = each
each_without P (Some gone) rows each = each-taken_out client_of P (client_of gone) rows each

pub each_admitted : (P : Row → Type 0) (clients_max : ℕ) (rows : List Row) (row : Row) → P row → Each P rows → Each P (admitted clients_max rows row)
each_admitted P clients_max rows row here each =
    elim (is_some (row_of rows (client_of row))) as (λ b. Each P (cond b (replaced client_of row rows) (put client_of row (without (driven_out clients_max rows) rows)))) [
      | true ↦ each-replaced_all client_of P row rows here each
      | false ↦ each-put client_of P row (without (driven_out clients_max rows) rows) here (each_without P (driven_out clients_max rows) rows each)
    ]

-- a client without a row has no row after another client's row is removed
pub absent_without : (rows : List Row) (client gone : ℕ) → row_of rows client ≡ None → row_of (taken_out client_of gone rows) client ≡ None
absent_without rows client gone absent = none-found (λ row. client_of row == client) (taken_out client_of gone rows) (each-taken_out client_of (λ row. (client_of row == client) ≡ false) gone rows (none-fails (λ row. client_of row == client) rows absent))

-- How a request relates to the sessions: its class.
use Rattle.std.specs.Prelude.{ℕ, ◌&&◌, ◌==◌, ◌+◌, ◌≡◌, nat_lt, List, Option, None, if◌then◌else◌, find}
use Rattle.std.specs.Option.{option_map_or}
use Rattle.tb_records.specs.Messages.{Message, is_register}
use Rattle.tb_records.specs.Same.{same_body}
use Rattle.tb_sessions.specs.declared.classes.Class.{Class}
use Rattle.tb_sessions.specs.declared.classes.Class.TheVariants.{New, Repeat, NoSession, SessionTooLow, NewerSession, Older, Collision, NewerRequest}
use Rattle.tb_sessions.specs.declared.rows.Row.{Row}

-- the rows are ordered by their clients
abbrev pub client_of : Row → ℕ
client_of row = row.client

abbrev pub row_of : List Row → ℕ → Option Row
row_of rows client = find (λ row. client_of row == client) rows

-- the class of a request whose client has the row; a register is a repeat only until the session's first request
abbrev pub class_beside : Row → Message → Class
class_beside row r =
    if is_register r.body then (if row.request.request == 0 then Repeat else Older)
    else if nat_lt r.session row.session then SessionTooLow
    else if nat_lt row.session r.session then NewerSession
    else if nat_lt r.request row.request.request then Older
    else if r.request == row.request.request && same_body r.body row.request.body then Repeat
    else if r.request == row.request.request then Collision
    else if r.request == row.request.request + 1 then New
    else NewerRequest

-- the class of a request: by its client's row, or that of a client without a row
abbrev pub class_of : List Row → Message → Class
class_of rows r = option_map_or (λ row. class_beside row r) (row_of rows r.client) (if is_register r.body then New else NoSession)

-- the class of a request that is not served by a row: its own class, which is New only if its client has no session
abbrev pub GetsClass : List Row → Message → Class → Type 0
GetsClass rows r class = (class ≡ class_of rows r) × (class ≡ New → row_of rows r.client ≡ None)

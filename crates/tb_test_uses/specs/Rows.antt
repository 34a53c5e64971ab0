-- The row that a caller of the sessions makes.
use Rattle.std.specs.Prelude.{ℕ}
use Rattle.tb_records.specs.Messages.{Message, Answer}
use Rattle.tb_sessions.specs.declared.rows.Row.{Row}

-- the row of a request's client, with the request, the reply to it and its commit number
abbrev pub use_row : Message → Answer → ℕ → Row
use_row request reply commit = record { client = request.client; session = reply.session; request = request; reply = reply; commit = commit }

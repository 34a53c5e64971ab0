-- The limits of a ledger.
use Rattle.std.specs.Prelude.{ℕ, ◌<◌, ◌≤◌}
use Rattle.tb_records.specs.declared.limits.TheConstants.{CLIENTS_MAX}

-- a number of clients that can have a session at one time
abbrev pub IsClients : ℕ → Type 0
IsClients n = (0 < n) × (n ≤ CLIENTS_MAX)

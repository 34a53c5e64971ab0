use Rattle.std.proofs.Common.{◌≡◌}
use Rattle.tb_edge_storm.specs.Calls.{accounts_to}
use Rattle.tb_edge_storm.proofs.calls.create_accounts.Given as goal

-- the accounts so far
abbrev pub invariant-loop-done : goal.invariant-loop-done
invariant-loop-done l = l.accounts.items ≡ accounts_to l.done

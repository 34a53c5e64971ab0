use Rattle.tb_ledger.proofs.Common.{◌≡◌, ◌+◌, ◌≤◌, ◌-◌, length, drop, chain_length}
use Rattle.tb_ledger.proofs.batches.chain_length.Given as goal

abbrev pub invariant-loop-n : goal.invariant-loop-n
invariant-loop-n g l = record {
  ahead : l.n + chain_length g.E.Event.kind (drop l.n l.events) ≡ chain_length g.E.Event.kind l.events;
  within : l.n ≤ length l.events;
}

abbrev pub decreases-loop-n : goal.decreases-loop-n
decreases-loop-n g l = length l.events - l.n

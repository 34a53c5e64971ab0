use Rattle.tb_ledger.proofs.Common.{◌≡◌, ◌+◌, ◌-◌, ◌++◌, replicate, length, results_from}
use Rattle.tb_ledger.proofs.batches.results.push_failed.Given as goal

abbrev pub invariant-loop-i : goal.invariant-loop-i
invariant-loop-i g l = record {
  items : l.results.items ++ results_from (l.index + l.i) (replicate (l.n - l.i) 1) ≡ l.initial.results.items ++ results_from l.index (replicate l.n 1);
  len : length l.results.items ≡ length l.initial.results.items + l.i;
  capacity : l.results.capacity ≡ l.initial.results.capacity;
}

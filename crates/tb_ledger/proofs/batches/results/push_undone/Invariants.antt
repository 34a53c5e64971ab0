use Rattle.tb_ledger.proofs.Common.{◌≡◌, ◌+◌, ◌++◌, drop, length, results_from, undone, timed_from}
use Rattle.tb_ledger.proofs.batches.results.push_undone.Given as goal

abbrev pub invariant-loop-i : goal.invariant-loop-i
invariant-loop-i g l = record {
  items : l.results.items ++ results_from (l.index + l.i) (undone g.E.Event.kind (timed_from 0 (drop l.i l.rest))) ≡ l.initial.results.items ++ results_from l.index (undone g.E.Event.kind (timed_from 0 l.rest));
  len : length l.results.items ≡ length l.initial.results.items + l.i;
  capacity : l.results.capacity ≡ l.initial.results.capacity;
}

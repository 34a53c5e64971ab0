use Rattle.tb_ledger.proofs.Common.{◌≡◌, ◌+◌, ◌≤◌, ◌++◌, length, chains, chains_after, timed_from, results_from, capacity_of, books_in, AreRowsKept}
use Rattle.tb_ledger.proofs.batches.run_batch.Given as goal

abbrev pub invariant-loop-rest : goal.invariant-loop-rest
invariant-loop-rest g l = let kind = g.E.Event.kind in let start = l.initial.work.rows in record {
  books : (chains_after kind (books_in l.work.rows) (chains kind (timed_from l.stamp l.rest))).books ≡ (chains_after kind (books_in start) (chains kind (timed_from l.time l.events))).books;
  results : l.work.results.items ++ results_from l.index (chains_after kind (books_in l.work.rows) (chains kind (timed_from l.stamp l.rest))).codes ≡ l.initial.work.results.items ++ results_from 0 (chains_after kind (books_in start) (chains kind (timed_from l.time l.events))).codes;
  left : l.index + length l.rest ≡ length l.events;
  stamp : l.stamp ≡ l.time + l.index;
  kept : AreRowsKept l.work.rows;
  time : l.work.rows.time ≡ start.time;
  log : l.work.undo_log.capacity ≡ l.initial.work.undo_log.capacity;
  capacity : g.E.Event.HasCapacity (length l.rest) (capacity_of l.work.rows);
  results_len : length l.work.results.items ≤ length l.initial.work.results.items + l.index;
  results_capacity : l.work.results.capacity ≡ l.initial.work.results.capacity;
}

abbrev pub decreases-loop-rest : goal.decreases-loop-rest
decreases-loop-rest g l = length l.rest

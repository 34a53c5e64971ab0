use Rattle.tb_ledger.proofs.Common.{◌≡◌, ◌+◌, ◌*◌, ◌-◌, ◌<◌, ◌≤◌, true, [], length, drop, UNDOS_PER_EVENT, failure_from, all_recorded, timed_from, capacity_of, Uses, books_in, AreRowsKept, chained, LeadsBack}
use Rattle.tb_ledger.proofs.batches.run_chain.Given as goal

abbrev pub invariant-loop-i : goal.invariant-loop-i
invariant-loop-i g l = let kind = g.E.Event.kind in let start = l.initial.work.rows in record {
  failure : failure_from kind l.i (books_in l.work.rows) (timed_from l.stamp (drop l.i l.chain)) ≡ failure_from kind 0 (books_in start) (timed_from l.time l.chain);
  all : all_recorded kind (books_in l.work.rows) (timed_from l.stamp (drop l.i l.chain)) ≡ all_recorded kind (books_in start) (timed_from l.time l.chain);
  noting : 1 < length l.chain → l.work.undo_log.noting ≡ true;
  back : l.i < length l.chain → LeadsBack (chained start) (chained l.work.rows) [] l.work.undo_log.changes;
  failed : l.work.rows.failed ≡ start.failed;
  time : l.work.rows.time ≡ start.time;
  kept : AreRowsKept l.work.rows;
  results : l.work.results ≡ l.initial.work.results;
  stamp : l.stamp ≡ l.time + l.i;
  within : l.i ≤ length l.chain;
  uses : Uses l.i (capacity_of start) (capacity_of l.work.rows);
  undo_log : length l.work.undo_log.changes ≤ UNDOS_PER_EVENT * l.i;
  log : l.work.undo_log.capacity ≡ l.initial.work.undo_log.capacity;
}

abbrev pub decreases-loop-i : goal.decreases-loop-i
decreases-loop-i g l = length l.chain - l.i

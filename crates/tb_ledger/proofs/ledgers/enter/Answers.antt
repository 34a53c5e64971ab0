use Rattle.tb_ledger.proofs.Common.{rules, length, ap, arith, capacity_of}
use Rattle.tb_ledger.proofs.Capacities.{has_left, uses_kept}
use Rattle.tb_ledger.proofs.ledgers.enter.Goals as goal

pub run_batch-requires-clause-ready : goal.run_batch-requires-clause-ready
run_batch-requires-clause-ready g c =
    let n = length c.args.events.now in
    let entry = c.requires.entry in
    let rows = c.args.work.now.rows in
    let later = c.expire.new.rows in
    let made = c.in_ok-reserve.ensures in
    record {
      kept = c.expire.ensures.kept;
      capacity = has_left g.E.Event.HasCapacity g.met.E.Event.leaves_rest 0 n n (capacity_of rows) (capacity_of later) (omega arith) c.requires.capacity (uses_kept rows later c.expire.ensures.records);
      stamped = omega (arith, c.expire.ensures.time, entry.later, entry.count);
      in_range = omega (arith, entry.in_range, entry.later, entry.count);
      log = c.in_ok-reserve-2.ensures;
      results = omega (arith, made.capacity, ap (λ items. length items) made.none);
    }

pub returns-in_err-reserve-2-clause-err : goal.returns-in_err-reserve-2-clause-err
returns-in_err-reserve-2-clause-err g c = search rules

pub returns-clause-books : goal.returns-clause-books
returns-clause-books g c = search rules

pub returns-clause-results : goal.returns-clause-results
returns-clause-results g c = search rules

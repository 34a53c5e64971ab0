use Rattle.tb_ledger.proofs.Common.{◌≡◌, ◌<◌, ◌+◌, ◌++◌, length, sym, ap, ◌∙◌, arith, nat_tests, chains, chain_after, chains_after, timed_from, results_from, capacity_of, IsPreparedFor, books_in}
use Rattle.tb_ledger.proofs.ChainLaws.{length-codes, length-timed_from}
use Rattle.tb_ledger.proofs.Capacities.{has_left, uses_none}
use Rattle.tb_ledger.proofs.ResultLaws.{chains-round, results-round}
use Rattle.tb_ledger.proofs.batches.run_batch.Goals as goal

pub loop-rest-preserved : goal.loop-rest-preserved
loop-rest-preserved g c =
    let kind = g.E.Event.kind in
    let v = c.loop-rest.invariant in
    let r = rw c.look_ahead.ensures at c.run_chain.ensures in
    let rest = c.loop-rest.rest.now in
    let chain = c.split_at.result.0.now in
    let later = c.split_at.result.1.now in
    let cut = c.split_at.ensures in
    let B = books_in c.loop-rest.work.rows in
    let stamp = c.loop-rest.stamp in
    let first = chain_after kind B (timed_from stamp chain) in
    let empty = c.loop-rest-test.ensures in
    let some : 0 < length rest = grind (arith, nat_tests) in
    let rounds = chains-round kind stamp c.chain_length.result rest chain later some c.chain_length.ensures.count cut.front cut.back cut.front_len in
    let after = chains kind (timed_from (stamp + length chain) later) in
    let codes : length first.codes ≡ length chain = length-codes kind B (timed_from stamp chain) ∙ length-timed_from stamp chain in
    let parts : length rest ≡ length chain + length later = omega (arith, cut.front_len, cut.back_len) in
    record {
      books = ap (λ C. (chains_after kind C after).books) r.books ∙ sym (ap (λ bs. (chains_after kind B bs).books) rounds) ∙ v.books;
      results = ap (λ C. c.run_chain.new.work.results.items ++ results_from (c.loop-rest.index + length chain) (chains_after kind C after).codes) r.books
          ∙ results-round c.loop-rest.work.results.items c.run_chain.new.work.results.items _ c.loop-rest.index (length chain) first.codes (chains_after kind first.books after).codes codes r.results
          (ap (λ bs. c.loop-rest.work.results.items ++ results_from c.loop-rest.index (chains_after kind B bs).codes) (sym rounds) ∙ v.results);
      left = omega (arith, parts, v.left);
      stamp = omega (arith, v.stamp);
      kept = r.leaves.kept;
      time = r.leaves.time ∙ v.time;
      log = r.leaves.log ∙ v.log;
      capacity = has_left g.E.Event.HasCapacity g.met.E.Event.leaves_rest (length chain) (length later) (length rest) (capacity_of c.loop-rest.work.rows) (capacity_of c.run_chain.new.work.rows) (omega (arith, parts)) v.capacity r.leaves.capacity;
      results_len = omega (arith, r.leaves.results_len, v.results_len);
      results_capacity = r.leaves.results_capacity ∙ v.results_capacity;
    }

pub run_chain-requires-clause-index_fits : goal.run_chain-requires-clause-index_fits
run_chain-requires-clause-index_fits g c = omega (arith, c.requires.index_fits, c.loop-rest.invariant.left, c.split_at.ensures.front_len, c.split_at.ensures.back_len)

pub overflow_cast-index : goal.overflow_cast-index
overflow_cast-index g c = omega (arith, c.requires.index_fits, c.loop-rest.invariant.left, c.split_at.ensures.front_len, c.split_at.ensures.back_len)

pub overflow_add-index : goal.overflow_add-index
overflow_add-index g c = omega (arith, c.requires.index_fits, c.loop-rest.invariant.left, c.split_at.ensures.front_len, c.split_at.ensures.back_len)

pub overflow_add-stamp : goal.overflow_add-stamp
overflow_add-stamp g c =
    let v = c.loop-rest.invariant in
    omega (arith, c.requires.ready.in_range, v.left, v.stamp, c.split_at.ensures.front_len, c.split_at.ensures.back_len)

pub loop-rest-smaller : goal.loop-rest-smaller
loop-rest-smaller g c =
    let rest = c.loop-rest.rest.now in
    let empty = c.loop-rest-test.ensures in
    let some : 0 < length rest = grind (arith, nat_tests) in
    omega (arith, c.split_at.ensures.front_len, c.split_at.ensures.back_len, c.chain_length.ensures.some some)

pub run_chain-requires-clause-ready : goal.run_chain-requires-clause-ready
run_chain-requires-clause-ready g c =
    let v = c.loop-rest.invariant in
    let rows = c.loop-rest.work.rows in
    let rest = c.loop-rest.rest.now in
    let chain = c.split_at.result.0.now in
    let later = c.split_at.result.1.now in
    let cut = c.split_at.ensures in
    let ready = c.requires.ready in
    let parts : length rest ≡ length later + length chain = omega (arith, cut.front_len, cut.back_len) in
    let its : IsPreparedFor g.E.Event.HasCapacity (length chain) c.loop-rest.work c.loop-rest.stamp = record {
      kept = v.kept;
      capacity = has_left g.E.Event.HasCapacity g.met.E.Event.leaves_rest 0 (length chain) (length rest) (capacity_of rows) (capacity_of rows) (omega (arith, parts)) v.capacity (uses_none 0 (capacity_of rows));
      stamped = omega (arith, ready.stamped, v.time, v.stamp);
      in_range = omega (arith, ready.in_range, parts, v.left, v.stamp);
      log = omega (arith, ready.log, parts, v.left, v.log);
      results = omega (arith, ready.results, parts, v.left, v.results_len, v.results_capacity);
    } in
    rw c.look_ahead.ensures its

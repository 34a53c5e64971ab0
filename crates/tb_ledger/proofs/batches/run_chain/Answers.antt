use Rattle.tb_ledger.proofs.Common.{◌≡◌, ◌+◌, ◌++◌, [], length, refl, sym, ap, ◌∙◌, arith, append-nil, results_from, chain_after, timed_from, capacity_of, books_in, chained}
use Rattle.tb_ledger.proofs.Capacities.{has_left, uses_more, uses_both}
use Rattle.tb_ledger.proofs.CodeLaws.{results-none}
use Rattle.tb_ledger.proofs.ChainLaws.{failure-later, all-later, broken-here, passed-here}
use Rattle.tb_ledger.proofs.RowLaws.{rows_back}
use Rattle.tb_ledger.proofs.UndoLogs.{leads_both}
use Rattle.tb_ledger.proofs.batches.run_chain.Goals as goal

-- each event of a chain finds capacity

pub take_in_chain-requires : goal.take_in_chain-requires
take_in_chain-requires g c =
    let v = c.loop-i.invariant in
    let ready = c.requires.ready in
    record {
      ready = record {
        kept = v.kept;
        capacity = has_left g.E.Event.HasCapacity g.met.E.Event.leaves_rest c.loop-i.i 1 (length c.args.chain.now) (capacity_of c.args.work.now.rows) (capacity_of c.loop-i.work.rows) (omega (arith, c.loop-i-test.true)) ready.capacity v.uses;
        stamped = omega (arith, ready.stamped, v.time, v.stamp);
        log = omega (arith, v.undo_log, v.log, ap (λ t. t.capacity) c.start.ensures, ready.log, c.loop-i-test.true);
      };
    }

pub loop-i-preserved : goal.loop-i-preserved
loop-i-preserved g c =
    let t = c.in-Ok.ensures.decides in
    let s = t.leaves in
    let v = c.loop-i.invariant in
    let kind = g.E.Event.kind in
    let B = books_in c.loop-i.work.rows in
    let event = c.index-chain-i.result in
    let chain = c.args.chain.now in
    let later = failure-later kind B chain c.loop-i.i c.loop-i.stamp 0 event c.loop-i-test.true c.index-chain-i.is (sym t.judged) refl in
    let ends = all-later kind B chain c.loop-i.i c.loop-i.stamp event c.loop-i-test.true c.index-chain-i.is in
    record {
      failure = rw t.done (sym later ∙ v.failure);
      all = rw t.done (sym ends ∙ v.all);
      noting = λ many. s.grows.noting ∙ v.noting many;
      back = λ more. leads_both (chained c.args.work.now.rows) (chained c.loop-i.work.rows) (chained c.take_in_chain.new.work.rows) [] c.loop-i.work.undo_log.changes c.take_in_chain.new.work.undo_log.changes (v.back c.loop-i-test.true) (s.grows.leads (v.noting (omega (arith, more))));
      failed = s.failed ∙ v.failed;
      time = s.time ∙ v.time;
      kept = s.kept;
      results = s.results ∙ v.results;
      stamp = omega (arith, v.stamp);
      within = omega (arith, c.loop-i-test.true);
      uses = uses_both c.loop-i.i 1 _ _ _ v.uses s.capacity;
      undo_log = omega (arith, s.grows.length, v.undo_log);
      log = s.grows.capacity ∙ v.log;
    }

-- an event that is refused leaves rows and undo log, so the rows that the log leads back to are those from before the chain

pub unwind-requires : goal.unwind-requires
unwind-requires g c = rw c.in-Err.ensures.decides.refused ((c.loop-i.invariant.back c.loop-i-test.true).can_unwind tt)

pub refuse-requires : goal.refuse-requires
refuse-requires g c =
    let v = c.loop-i.invariant in
    let undone = rw c.in-Err.ensures.decides.refused at c.unwind.ensures.unwound in
    let back = rows_back c.loop-i.i c.args.work.now.rows c.loop-i.work.rows c.unwind.new.rows c.loop-i.work.undo_log c.requires.ready.kept (v.back c.loop-i-test.true) v.failed v.time v.uses undone in
    let fresh = c.in-Err.ensures.fresh in
    record {
      kept = back.kept;
      capacity = has_left g.E.Event.HasCapacity g.met.E.Event.leaves_rest c.loop-i.i 1 (length c.args.chain.now) (capacity_of c.args.work.now.rows) (capacity_of c.unwind.new.rows) (omega (arith, c.loop-i-test.true)) c.requires.ready.capacity back.uses;
      fresh = rw (undone.failed, undone.keeps_failed) fresh;
    }

pub returns-in-Err : goal.returns-in-Err
returns-in-Err g c =
    let v = c.loop-i.invariant in
    let kind = g.E.Event.kind in
    let i = c.loop-i.i in
    let t = c.in-Err.ensures.decides in
    let undone = rw t.refused at c.unwind.ensures.unwound in
    let back = rows_back i c.args.work.now.rows c.loop-i.work.rows c.unwind.new.rows c.loop-i.work.undo_log c.requires.ready.kept (v.back c.loop-i-test.true) v.failed v.time v.uses undone in
    let code = g.E.Event.code_of c.in-Err.refusal in
    let broken = broken-here kind (books_in c.args.work.now.rows) c.args.chain.now c.args.time (books_in c.loop-i.work.rows) i c.loop-i.stamp code c.index-chain-i.result v.failure c.loop-i-test.true c.index-chain-i.is (sym t.judged.0) t.judged.1 in
    let same = t.leaves.results ∙ v.results in
    record {
      books = c.refuse.ensures.books ∙ ap (λ B. kind.refused B c.index-chain-i.result code) back.books ∙ sym (ap (λ o. o.books) broken);
      results = c.break_off.ensures.items ∙ (λ i. (same i).items ++ results_from c.args.index (sym broken i).codes);
      leaves = record {
        kept = c.refuse.ensures.kept;
        time = c.refuse.ensures.stays.time ∙ ap (λ B. B.time) back.books;
        capacity = uses_more (i + 1) (length c.args.chain.now) _ _ (omega (arith, c.loop-i-test.true)) (uses_both i 1 _ _ _ back.uses c.refuse.ensures.uses);
        log = c.unwind.ensures.capacity ∙ t.leaves.grows.capacity ∙ v.log ∙ ap (λ t. t.capacity) c.start.ensures;
        results_len = omega (arith, c.break_off.ensures.len, ap (λ r. length r.items) same);
        results_capacity = c.break_off.ensures.capacity ∙ ap (λ r. r.capacity) same;
      };
    }

-- a chain that passes

pub returns : goal.returns
returns g c =
    let v = c.loop-i.invariant in
    let chain = c.args.chain.now in
    let passed = passed-here g.E.Event.kind (books_in c.args.work.now.rows) chain c.args.time (books_in c.loop-i.work.rows) c.loop-i.i c.loop-i.stamp v.failure v.all c.loop-i-test.false in
    let none : results_from c.args.index (chain_after g.E.Event.kind (books_in c.args.work.now.rows) (timed_from c.args.time chain)).codes ≡ [] = ap (λ o. results_from c.args.index o.codes) passed ∙ results-none c.args.index (length chain) in
    record {
      books = sym (ap (λ o. o.books) passed);
      results = ap (λ r. r.items) v.results ∙ sym (append-nil c.args.work.now.results.items) ∙ ap (λ rest. c.args.work.now.results.items ++ rest) (sym none);
      leaves = record {
        kept = v.kept;
        time = v.time;
        capacity = uses_more c.loop-i.i (length chain) _ _ v.within v.uses;
        log = v.log ∙ ap (λ t. t.capacity) c.start.ensures;
        results_len = omega (arith, ap (λ r. length r.items) v.results);
        results_capacity = ap (λ r. r.capacity) v.results;
      };
    }

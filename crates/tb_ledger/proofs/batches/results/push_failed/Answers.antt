use Rattle.tb_ledger.proofs.Common.{◌++◌, sym, ap, ◌∙◌, arith}
use Rattle.tb_ledger.proofs.CodeLaws.{pushed, failed-step}
use Rattle.tb_ledger.proofs.batches.results.push_failed.Goals as goal

pub loop-i-preserved : goal.loop-i-preserved
loop-i-preserved g c =
    let before = c.loop-i.results.items in
    let pushed_is = rw c.undone.ensures at c.push_result.ensures.items in
    let step = failed-step c.args.index c.loop-i.i c.args.n c.loop-i-test.true in
    record {
      items = pushed before c.push_result.new.results.items _ _ _ pushed_is (ap (λ rest. before ++ rest) (sym step) ∙ c.loop-i.invariant.items);
      len = omega (arith, c.push_result.ensures.len, c.loop-i.invariant.len);
      capacity = c.push_result.ensures.capacity ∙ c.loop-i.invariant.capacity;
    }

use Rattle.tb_ledger.proofs.Common.{◌++◌, sym, ap, ◌∙◌, arith}
use Rattle.tb_ledger.proofs.CodeLaws.{pushed}
use Rattle.tb_ledger.proofs.ChainLaws.{undone-step}
use Rattle.tb_ledger.proofs.batches.results.push_undone.Goals as goal

pub loop-i-preserved : goal.loop-i-preserved
loop-i-preserved g c =
    let before = c.loop-i.results.items in
    let step = undone-step g.E.Event.kind c.args.rest.now c.args.index c.loop-i.i (g.E.Event.code_of c.undone_by-refusal.result) c.index-rest-i.result c.loop-i-test.true c.index-rest-i.is c.undone_by-refusal.ensures in
    record {
      items = pushed before c.push_result.new.results.items _ _ _ c.push_result.ensures.items (ap (λ rest. before ++ rest) (sym step) ∙ c.loop-i.invariant.items);
      len = omega (arith, c.push_result.ensures.len, c.loop-i.invariant.len);
      capacity = c.push_result.ensures.capacity ∙ c.loop-i.invariant.capacity;
    }

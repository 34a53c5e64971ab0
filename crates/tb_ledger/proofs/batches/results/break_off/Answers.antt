use Rattle.tb_ledger.proofs.Common.{◌+◌, ◌-◌, ◌++◌, ◌∷◌, replicate, length, take, drop, ap, ◌∙◌, undone, timed_from, results_from}
use Rattle.tb_ledger.proofs.CodeLaws.{broken-results, rest-whole}
use Rattle.tb_ledger.proofs.batches.results.break_off.Goals as goal

pub returns-clause-items : goal.returns-clause-items
returns-clause-items g c =
    let after = c.args.place + 1 in
    let chain = c.args.chain.now in
    let pushed = broken-results c.args.results.now.items c.push_failed.new.results.items c.push_result.new.results.items c.push_undone.new.results.items c.args.index c.args.place (g.E.Event.code_of c.args.refusal)
    (undone g.E.Event.kind (timed_from 0 (take (length chain - after) (drop after chain)))) c.requires.refused c.push_failed.ensures.items c.push_result.ensures.items c.push_undone.ensures.items in
    pushed ∙ ap (λ rest. c.args.results.now.items ++ results_from c.args.index (replicate c.args.place 1 ++ g.E.Event.code_of c.args.refusal ∷ undone g.E.Event.kind (timed_from 0 rest))) (rest-whole chain after)

use Rattle.std.proofs.Common.{◌∷◌, [], ◌++◌, ap, ◌∙◌, arith}
use Rattle.tb_file_journal.proofs.Waiting.{all_fit, fewer, one_more, batch_of_more}
use Rattle.tb_file_journal.proofs.batches.Batch.add.Goals as goal

pub overflow_add-self : goal.overflow_add-self
overflow_add-self c = omega (arith, fewer c.self.inside.bytes.items c.self.inside.count c.self.invariant, c.self.ranges)

pub invariant_of-self : goal.invariant_of-self
invariant_of-self c =
    batch_of_more c.self.inside.bytes.items c.add_block.new.bytes.items c.args.content.now c.self.inside.count c.self.invariant
    (all_fit c.args.content.now c.requires (λ i. omega (arith, c.type_inv.content i))) c.in-Ok.ensures.ok

pub returns-in-Ok-clause-ok : goal.returns-in-Ok-clause-ok
returns-in-Ok-clause-ok c =
    one_more c.self.inside.bytes.items c.add_block.new.bytes.items c.args.content.now c.self.inside.count c.self.invariant
    (all_fit c.args.content.now c.requires (λ i. omega (arith, c.type_inv.content i))) c.in-Ok.ensures.ok
    ∙ ap (λ waiting. waiting ++ c.args.content.now ∷ []) c.self.view_is

use Rattle.std.proofs.Common.{◌∷◌, [], ◌++◌, ap, ◌∙◌, arith}
use Rattle.tb_file_journal.proofs.Waiting.{fewer, one_more, batch_of_more}
use Rattle.tb_file_journal.proofs.batches.Batch.add_written.Goals as goal

pub overflow_add-self : goal.overflow_add-self
overflow_add-self g c = omega (arith, fewer c.self.inside.bytes.items c.self.inside.count c.self.invariant, c.self.ranges)

pub invariant_of-self : goal.invariant_of-self
invariant_of-self g c =
    batch_of_more c.self.inside.bytes.items c.write_block.new.bytes.items (g.W.Written.bytes c.args.content.now) c.self.inside.count c.self.invariant
    c.in-Ok.ensures.fits c.in-Ok.ensures.ok

pub returns-in-Ok-clause-ok : goal.returns-in-Ok-clause-ok
returns-in-Ok-clause-ok g c =
    one_more c.self.inside.bytes.items c.write_block.new.bytes.items (g.W.Written.bytes c.args.content.now) c.self.inside.count c.self.invariant
    c.in-Ok.ensures.fits c.in-Ok.ensures.ok
    ∙ ap (λ waiting. waiting ++ g.W.Written.bytes c.args.content.now ∷ []) c.self.view_is

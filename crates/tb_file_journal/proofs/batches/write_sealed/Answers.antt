use Rattle.std.proofs.Common.{length, drop, ◌∙◌, arith}
use Rattle.std.proofs.lemmas.List.{take_at}
use Rattle.tb_file_journal.proofs.Sealing.{sealed_block, content_fits}
use Rattle.tb_file_journal.proofs.batches.write_sealed.Goals as goal

pub returns-clause-ok : goal.returns-clause-ok
returns-clause-ok g c =
    take_at c.seal.new.bytes (drop (length c.seal.new.bytes) c.write_record.new.bytes.items) c.write_record.new.bytes.len (c.seal.auto.bytes ∙ c.deref_mut.ensures.len)
    ∙ sealed_block c.args.bytes.now.items (g.W.Written.bytes c.args.content.now) c.deref_mut.result.now c.len-at.result (omega (arith, c.args.bytes.now.ok.0, c.len-at.ensures))
    (c.deref_mut.ensures.value ∙ c.in_ok-write_record.ensures.ok) c.seal.new.bytes c.seal.ensures.sealed

pub returns-clause-fits : goal.returns-clause-fits
returns-clause-fits g c =
    content_fits c.args.bytes.now.items (g.W.Written.bytes c.args.content.now) c.deref_mut.result.now c.len-at.result (omega (arith, c.args.bytes.now.ok.0, c.len-at.ensures))
    (c.deref_mut.ensures.value ∙ c.in_ok-write_record.ensures.ok) c.seal.ensures.fits

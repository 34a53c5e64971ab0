use Rattle.std.proofs.Common.{◌*◌, length, sym, ap, ◌∙◌}
use Rattle.tb_records.proofs.Pieces.{length-items}
use Rattle.tb_records.proofs.writing.items_len.Goals as goal

pub returns : goal.returns
returns g c =
    let items = c.args.items.now in
    ap (λ n. length items * n) c.SIZE.ensures ∙ sym (length-items g.T.Item.spelling g.T.Item.SIZE items g.met.T.Item.length_spelling)

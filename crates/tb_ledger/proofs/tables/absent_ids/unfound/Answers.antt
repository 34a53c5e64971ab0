use Rattle.tb_ledger.proofs.Common.{◌∷◌, [], ◌∙◌, sym, map, option_copied, unfound}
use Rattle.tb_ledger.proofs.AbsentKeys.{eight, eight-read}
use Rattle.tb_ledger.proofs.tables.absent_ids.unfound.Goals as goal

pub returns : goal.returns
returns g c =
    let ids = eight 0 c.args.ids.now c.told-ids in
    let rows = eight-read c.args.rows.now c.index-rows-0.result c.index-rows-1.result c.index-rows-2.result c.index-rows-3.result c.index-rows-4.result c.index-rows-5.result c.index-rows-6.result c.index-rows-7.result c.told-rows
    c.index-rows-0.is c.index-rows-1.is c.index-rows-2.is c.index-rows-3.is c.index-rows-4.is c.index-rows-5.is c.index-rows-6.is c.index-rows-7.is ∙ (λ j. c.index-rows-0.is j ∷ c.index-rows-1.is j ∷ c.index-rows-2.is j ∷ c.index-rows-3.is j ∷ c.index-rows-4.is j ∷ c.index-rows-5.is j ∷ c.index-rows-6.is j ∷ c.index-rows-7.is j ∷ []) in
    rw (c.if_unfound.ensures, c.if_unfound-2.ensures, c.if_unfound-3.ensures, c.if_unfound-4.ensures, c.if_unfound-5.ensures, c.if_unfound-6.ensures, c.if_unfound-7.ensures, c.if_unfound-8.ensures)
    (λ i. unfound (sym ids i) (map option_copied (sym rows i)))

use Rattle.std.proofs.Common.{◌≡◌, ◌∙◌, ◌++◌, take, flat_map, sym, ap, subst, append_assoc}
use Rattle.std.proofs.lemmas.Result.{err_from_is_err_and}
use Rattle.std.proofs.lemmas.List.Elements.{All-append}
use Rattle.std.proofs.KnownBytes.{Appends-trans}
use Rattle.std.specs.Io.KnownBytes.{Appends}
use Rattle.tb_records.proofs.Pieces.{cut_off_in, spellings_in, rejoined}
use Rattle.std.proofs.lemmas.Grind.{flat_map-append}
use Rattle.tb_records.proofs.devices.put_blocks.Goals as goal

pub returns-in_err-put_all-clause-sent : goal.returns-in_err-put_all-clause-sent
returns-in_err-put_all-clause-sent g c =
    let inv = c.loop-left.invariant in
    let part = c.split_at.result.0.now in
    let rest = c.split_at.result.1.now in
    let cut : part ++ rest ≡ c.loop-left.left.now = rejoined c.min.result c.loop-left.left.now part rest c.split_at.ensures.front c.split_at.ensures.back in
    let p = err_from_is_err_and c.from_residual.result c.from_residual.ensures.1 in
    let failed = c.in_err-put_all.ensures in
    rw (p.1, p.2) (
      failed.0,
      cut_off_in (flat_map g.T.Item.spelling inv.0) _ (flat_map g.T.Item.spelling rest) _ _ _ _
          (spellings_in g.T.Item.spelling inv.0 part rest c.args.items.now (inv.1 ∙ ap (λ l. inv.0 ++ l) (sym cut))
          ∙ ap (λ l. flat_map g.T.Item.spelling inv.0 ++ (l ++ flat_map g.T.Item.spelling rest)) (sym c.spell_items-count.ensures.spelled))
          inv.2 inv.3 inv.4 failed.1,
    )

pub loop-left-preserved : goal.loop-left-preserved
loop-left-preserved g c =
    let inv = c.loop-left.invariant in
    let part = c.split_at.result.0.now in
    let rest = c.split_at.result.1.now in
    let cut : part ++ rest ≡ c.loop-left.left.now = rejoined c.min.result c.loop-left.left.now part rest c.split_at.ensures.front c.split_at.ensures.back in
    let sent = c.in_ok-put_all.ensures in
    let spelled : flat_map g.T.Item.spelling (inv.0 ++ part) ≡ flat_map g.T.Item.spelling inv.0 ++ take c.spell_items-count.result c.spell_items-count.new.block =
    flat_map-append g.T.Item.spelling inv.0 part ∙ ap (λ l. flat_map g.T.Item.spelling inv.0 ++ l) (sym c.spell_items-count.ensures.spelled) in (
      inv.0 ++ part,
      inv.1 ∙ ap (λ l. inv.0 ++ l) (sym cut) ∙ sym (append_assoc inv.0 part rest),
      subst (λ l. Appends (g.W.Sink.output c.args.sink.now).written (g.W.Sink.output c.put_all.new.sink).written l) (sym spelled) (Appends-trans _ _ _ _ _ inv.2 sent.grown),
      sent.counted ∙ inv.3,
      sent.flowed ∙ inv.4,
      All-append g.T.Item.Fits inv.0 part inv.5 c.spell_items-count.ensures.fit,
      search c.spell_items-count.ensures.long,
    )

use Rattle.std.proofs.Common.{◌≡◌, ◌∙◌, ◌≤◌, ◌+◌, ◌-◌, All, flat_map, length, take, ap, subst, arith, take_all}
use borrow.Rule.Slice.PartMut.{put_mid}
use Rattle.tb_records.proofs.Pieces.{fit_more, item_room, item_put, put_long}
use Rattle.tb_records.proofs.devices.spell_items.Goals as goal

pub loop-item-preserved : goal.loop-item-preserved
loop-item-preserved g c =
    let inv = c.loop-item.invariant in
    let at = c.loop-item.at in
    let block = c.loop-item.block in
    let items = c.args.items.now in
    let item = c.item-item.result in
    let part = c.copy_from_slice.new.self in
    let size = g.T.Item.SIZE in
    let room : at + size ≤ length block = item_room size c.loop-item.item-index (length items) at (length block) c.loop-item-test.true inv.place (omega (arith, inv.long, c.requires.block)) in
    let is : part ≡ g.T.Item.spelling item = c.copy_from_slice.ensures.after ∙ ap (λ n. take n c.write.new.out) c.SIZE-in-loop-item.ensures ∙ c.write.ensures.spelled in
    let long : length part ≡ size = ap length is ∙ g.met.T.Item.length_spelling item in
    let count = at + c.SIZE.result - at in
    let same : length (put_mid at count block part) ≡ length block = put_long at count block part (omega arith) (omega arith) in
    record {
      place = omega arith;
      within = omega arith;
      long = same ∙ inv.long;
      spelled = item_put g.T.Item.spelling items item c.loop-item.item-index at c.SIZE-at.result count block part c.loop-item-test.true c.item-item.is is (omega arith) inv.within inv.spelled;
      fit = fit_more g.T.Item.Fits items c.loop-item.item-index item c.loop-item-test.true c.item-item.is c.write.ensures.fits inv.fit;
    }

pub returns-clause-spelled : goal.returns-clause-spelled
returns-clause-spelled g c =
    c.loop-item.invariant.spelled ∙ ap (flat_map g.T.Item.spelling) (take_all c.loop-item.item-index c.args.items.now c.loop-item-test.false)

pub returns-clause-fit : goal.returns-clause-fit
returns-clause-fit g c = subst (All g.T.Item.Fits) (take_all c.loop-item.item-index c.args.items.now c.loop-item-test.false) c.loop-item.invariant.fit

use Rattle.std.proofs.Common.{◌≡◌, ◌∙◌, ◌++◌, ◌-◌, ◌*◌, All, flat_map, length, take, ap, subst, arith, length-take, take_all}
use Rattle.std.proofs.lemmas.List.{append-nil}
use Rattle.tb_records.proofs.ItemBytes.{length_items}
use Rattle.tb_records.proofs.Pieces.{fit_more, rows_left, appended_more}
use Rattle.tb_records.proofs.writing.append_items.Goals as goal

pub loop-item-init : goal.loop-item-init
loop-item-init g c =
    let xs = c.args.items.now in
    let all : length xs - 0 ≡ length xs = omega arith in
    record {
      capacity = omega (arith, ap (λ n. g.T.Item.SIZE * n) all, length_items g.T.Item.spelling g.T.Item.SIZE g.met.T.Item.length_spelling xs, c.requires);
      appended = simp append-nil;
      fit = λ k d h. absurd (omega arith);
    }

pub slice_bounds-bytes-end : goal.slice_bounds-bytes-end
slice_bounds-bytes-end g c = omega (arith, g.met.T.Item.small)

pub slice_bounds-extend_from_slice-end : goal.slice_bounds-extend_from_slice-end
slice_bounds-extend_from_slice-end g c = omega (arith, length-take c.SIZE.result c.write.new.out, g.met.T.Item.small)

pub unwrap-requires : goal.unwrap-requires
unwrap-requires g c =
    let left = rows_left g.T.Item.SIZE (length c.args.items.now) c.loop-item.item-index c.loop-item-test.true in
    c.extend_from_slice.ensures.succeeds (omega (arith, left, length-take c.SIZE.result c.write.new.out, g.met.T.Item.small))

pub loop-item-preserved : goal.loop-item-preserved
loop-item-preserved g c =
    let items = c.args.items.now in
    let k = c.loop-item.item-index in
    let item = c.item-item.result in
    let left = rows_left g.T.Item.SIZE (length items) k c.loop-item-test.true in
    let len = rw c.unwrap.ensures at c.extend_from_slice.ensures.len in
    let pushed = rw c.unwrap.ensures at c.extend_from_slice.ensures.items in
    let is : take c.SIZE.result c.write.new.out ≡ g.T.Item.spelling item = ap (λ n. take n c.write.new.out) c.SIZE.ensures ∙ c.write.ensures.spelled in
    record {
      capacity = omega (arith, left, len, length-take c.SIZE.result c.write.new.out, g.met.T.Item.small);
      appended = appended_more g.T.Item.spelling items k item c.args.out.now.items c.loop-item.out.items c.extend_from_slice.new.self.items (take c.SIZE.result c.write.new.out)
          c.loop-item-test.true c.item-item.is c.loop-item.invariant.appended pushed is;
      fit = fit_more g.T.Item.Fits items k item c.loop-item-test.true c.item-item.is c.write.ensures.fits c.loop-item.invariant.fit;
    }

pub returns-clause-appended : goal.returns-clause-appended
returns-clause-appended g c =
    c.loop-item.invariant.appended ∙ ap (λ l. c.args.out.now.items ++ flat_map g.T.Item.spelling l) (take_all c.loop-item.item-index c.args.items.now c.loop-item-test.false)

pub returns-clause-fit : goal.returns-clause-fit
returns-clause-fit g c = subst (All g.T.Item.Fits) (take_all c.loop-item.item-index c.args.items.now c.loop-item-test.false) c.loop-item.invariant.fit

use Rattle.std.proofs.Common.{◌≡◌, ◌∙◌, ◌*◌, ◌≤◌, length, take, drop, ap, arith, length-append, length-drop, length-take}
use Rattle.std.proofs.Math.Nat.{mul-le-mul_right}
use Rattle.std.proofs.lemmas.Result.{err_from_is_err_and}
use Rattle.tb_records.proofs.Pieces.{items_cut, items_read, part_within}
use Rattle.tb_records.proofs.devices.fill_items.Goals as goal

pub returns-in_err-fill_all-clause-bytes : goal.returns-in_err-fill_all-clause-bytes
returns-in_err-fill_all-clause-bytes g c =
    let fits : c.min-n.result * g.T.Item.SIZE ≤ c.args.at_once * g.T.Item.SIZE = mul-le-mul_right g.T.Item.SIZE (omega arith) in
    let long = length (take (c.min-n.result * c.SIZE.result) c.loop-items.buf) in
    let size : c.min-n.result * c.SIZE.result ≡ c.min-n.result * g.T.Item.SIZE = ap (λ k. c.min-n.result * k) c.SIZE.ensures in
    let same : long ≡ c.min-n.result * g.T.Item.SIZE = omega (arith, length-take (c.min-n.result * c.SIZE.result) c.loop-items.buf) in
    let p = err_from_is_err_and c.from_residual.result c.from_residual.ensures.1 in
    rw (p.1, p.2) (items_cut c.in_err-fill_all.field-0.0 g.T.Item.spelling c.args.count g.T.Item.SIZE c.min-n.result long c.loop-items.items.items _ _ _
    (omega arith) same g.met.T.Item.length_spelling c.loop-items.invariant.bytes c.in_err-fill_all.ensures.bytes)

pub overflow_mul-part : goal.overflow_mul-part
overflow_mul-part g c =
    let within = part_within c.min-n.result c.args.at_once g.T.Item.SIZE c.SIZE.result (length c.loop-items.buf) (omega arith) c.SIZE.ensures c.loop-items.invariant.buffer in
    omega (arith, within)

pub slice_bounds-part-end : goal.slice_bounds-part-end
slice_bounds-part-end g c =
    part_within c.min-n.result c.args.at_once g.T.Item.SIZE c.SIZE.result (length c.loop-items.buf) (omega arith) c.SIZE.ensures c.loop-items.invariant.buffer

pub loop-items-preserved : goal.loop-items-preserved
loop-items-preserved g c =
    let inv = c.loop-items.invariant in
    let filled = c.fill_all.new.buf in
    let cut = c.min-n.result * c.SIZE.result in
    record {
      within = omega arith;
      capacity = omega arith;
      buffer = omega (arith, length-append filled (drop cut c.loop-items.buf), length-drop cut c.loop-items.buf, length-take cut c.loop-items.buf);
      bytes = items_read g.T.Item.spelling c.loop-items.items.items c.push_items.new.items.items filled (g.S.Source.input c.args.source.now).left (g.S.Source.input c.loop-items.source).left
          (g.S.Source.input c.fill_all.new.source).left c.push_items.ensures.spelled inv.bytes c.in_ok-fill_all.ensures.bytes;
      fit = c.push_items.ensures.fit inv.fit;
      counted = c.in_ok-fill_all.ensures.counted ∙ inv.counted;
    }

pub returns-clause-bytes : goal.returns-clause-bytes
returns-clause-bytes g c = record { long = omega arith; bytes = c.loop-items.invariant.bytes; fit = c.loop-items.invariant.fit }

use Rattle.std.proofs.Common.{◌≡◌, All, ◌≤◌, ◌+◌, ◌-◌, ◌*◌, ◌++◌, length, take, vec_len, vec_capacity}
use Rattle.std.specs.List.{flat_map}
use Rattle.tb_records.proofs.writing.append_items.Given as goal

abbrev pub invariant-loop-item : goal.invariant-loop-item
invariant-loop-item g l = record {
  capacity : vec_len l.out + g.T.Item.SIZE * (length l.items - l.item-index) ≤ vec_capacity l.out;
  appended : l.out.items ≡ l.initial.out.items ++ flat_map g.T.Item.spelling (take l.item-index l.items);
  fit : All g.T.Item.Fits (take l.item-index l.items);
}

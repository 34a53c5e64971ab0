use Rattle.std.proofs.Common.{◌≡◌, ◌+◌, ◌*◌, ◌++◌, length, vec_len, vec_capacity}
use Rattle.std.specs.List.{flat_map, All}
use Rattle.tb_records.proofs.devices.push_items.Given as goal

abbrev pub invariant-loop : goal.invariant-loop
invariant-loop g l = record {
  long : vec_len l.items ≡ vec_len l.initial.items + l.counter;
  capacity : vec_capacity l.items ≡ vec_capacity l.initial.items;
  left : length l.rest + g.T.Item.SIZE * l.counter ≡ g.T.Item.SIZE * l.count;
  spelled : flat_map g.T.Item.spelling l.items.items ++ l.rest ≡ flat_map g.T.Item.spelling l.initial.items.items ++ l.bytes;
  fit : All g.T.Item.Fits l.initial.items.items → All g.T.Item.Fits l.items.items;
}

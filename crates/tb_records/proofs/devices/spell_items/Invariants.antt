use Rattle.std.proofs.Common.{◌≡◌, ◌≤◌, ◌*◌, length, take, flat_map, All}
use Rattle.tb_records.proofs.devices.spell_items.Given as goal

abbrev pub invariant-loop-item : goal.invariant-loop-item
invariant-loop-item g l = record {
  place : l.at ≡ g.T.Item.SIZE * l.item-index;
  within : l.at ≤ length l.block;
  long : length l.block ≡ length l.initial.block;
  spelled : take l.at l.block ≡ flat_map g.T.Item.spelling (take l.item-index l.items);
  fit : All g.T.Item.Fits (take l.item-index l.items);
}

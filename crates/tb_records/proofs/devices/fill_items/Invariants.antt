use Rattle.std.proofs.Common.{◌≡◌, ◌≤◌, ◌-◌, ◌*◌, length, flat_map, All, vec_len, vec_capacity}
use Rattle.std.specs.Io.KnownBytes.{Consumes}
use Rattle.tb_records.proofs.devices.fill_items.Given as goal

abbrev pub invariant-loop-items : goal.invariant-loop-items
invariant-loop-items g l = record {
  within : vec_len l.items ≤ l.count;
  capacity : l.count ≤ vec_capacity l.items;
  buffer : l.at_once * g.T.Item.SIZE ≤ length l.buf;
  bytes : Consumes (g.S.Source.input l.initial.source).left (g.S.Source.input l.source).left (flat_map g.T.Item.spelling l.items.items);
  fit : All g.T.Item.Fits l.items.items;
  counted : (g.S.Source.input l.source).failed ≡ (g.S.Source.input l.initial.source).failed;
}

abbrev pub decreases-loop-items : goal.decreases-loop-items
decreases-loop-items g l = l.count - vec_len l.items

use Rattle.std.proofs.Common.{inl}
use Rattle.tb_edge_commands.proofs.host.buffered.Goals as goal

pub returns : goal.returns
returns g c = inl (record {
  reader = c.in-Ok.input;
  of_input = c.in-Ok.ensures.inner;
  read_ahead = c.in-Ok.ensures.empty;
  holds_input = c.in-Ok.ensures.capacity;
  writer = c.in-Ok-with_capacity.output;
  of_output = c.in-Ok-with_capacity.ensures.inner;
  held_back = c.in-Ok-with_capacity.ensures.empty;
  holds_output = c.in-Ok-with_capacity.ensures.capacity;
  within = c.between.ensures;
})

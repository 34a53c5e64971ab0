use Rattle.std.proofs.Common.{inl, ◌∙◌}
use Rattle.tb_edge_file.proofs.host.serve.Goals as goal

pub returns : goal.returns
returns g c = inl (record {
  reader = c.in-Ok.reader;
  of_input = c.in-Ok.ensures.inner;
  read_ahead = c.in-Ok.ensures.empty;
  holds_input = c.in-Ok.ensures.capacity ∙ c.capacities-held_in.ensures.input;
  writer = c.in-Ok-with_capacity.writer;
  of_output = c.in-Ok-with_capacity.ensures.inner;
  held_back = c.in-Ok-with_capacity.ensures.empty;
  holds_output = c.in-Ok-with_capacity.ensures.capacity ∙ c.capacities-held_in.ensures.output;
  hosted = c.between.ensures;
})

use Rattle.tb_edge_file.proofs.host.between.Goals as goal

pub returns : goal.returns
returns g c = record {
  end = c.execute.new.pipes.reader;
  final = c.execute.new.pipes.writer;
  exits = rw (c.new.ensures, c.new-2.ensures) at c.execute.ensures;
}

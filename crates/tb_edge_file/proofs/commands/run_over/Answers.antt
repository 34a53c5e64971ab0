use Rattle.tb_edge_file.proofs.commands.run_over.Goals as goal

pub returns : goal.returns
returns g c = record {
  noted = _;
  frames = c.print_frames.ensures;
  served = c.run_opened-served.result;
  reason = c.reason-reason.result;
  asked = c.reason-reason.ensures;
  outcome_is = c.named_by.ensures;
  runs = c.run_opened-served.ensures;
}

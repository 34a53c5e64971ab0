use Rattle.std.proofs.Common.{refl, arith}
use Rattle.tb_edge_file.proofs.Passing.{printed_cut, printed_made}
use Rattle.tb_edge_file.proofs.keeping.serve.Goals as goal

pub returns : goal.returns
returns g c = record {
  noted = _;
  made = printed_made _ _ _ _ _ _ _ c.cut_bytes-cut.ensures (omega arith) c.print_made.ensures;
  started = _;
  cut = printed_cut _ _ _ _ _ _ c.cut_bytes-cut.ensures (omega arith) c.print_cut.ensures;
  ready = rw (c.commit.ensures.value, c.time.ensures, c.machine-machine.ensures) at c.print_ready.ensures;
  result = c.keep-kept.result;
  left = c.keep-kept.new.keeper;
  served = c.keep-kept.ensures.served;
  outcome_is = rw (c.kept_outcome.ensures, c.failed_pipe.ensures, c.failures-failures.ensures, c.failures.ensures) refl;
}

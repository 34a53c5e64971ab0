use Rattle.std.proofs.Common.{◌≡◌}
use Rattle.crossbeam_channel.specs.Claims.{view, IsSeatAt}
use Rattle.crossbeam_channel.specs.Ends.{sends_on}
use Rattle.tb_service.proofs.ports.send.Given as goal

abbrev pub invariant-loop-naps : goal.invariant-loop-naps
invariant-loop-naps g l = record {
  seated : IsSeatAt (sends_on l.sender) l.pass;
  same : (l.pass.id ≡ l.initial.pass.id) × (view l.pass ≡ view l.initial.pass);
  order : l.order ≡ l.initial.order;
}

use Rattle.std.proofs.Common.{◌≡◌, length}
use Rattle.crossbeam_channel.specs.Claims.{view}
use Rattle.tb_service.specs.Names.{service_of}
use Rattle.tb_service.specs.Ports.{AreNumbered}
use Rattle.tb_service.proofs.starting.make_ports.Given as goal

abbrev pub invariant-loop-number : goal.invariant-loop-number
invariant-loop-number l = record {
  numbered : AreNumbered (service_of l.initial.inbox.pass) 0 l.ports.items;
  count : length l.ports.items ≡ l.number;
  made : (view l.inbox.pass).ports ≡ l.number;
  taken : (view l.inbox.pass).taken ≡ (view l.initial.inbox.pass).taken;
  named : service_of l.inbox.pass ≡ service_of l.initial.inbox.pass;
}

use Rattle.std.proofs.Common.{Option, ap, ◌++◌, ◌∙◌}
use Rattle.std.specs.Option.{option_to_list}
use Rattle.tb_service.proofs.OwnPlaces.{numbered-last}
use Rattle.tb_test_refusals.proofs.ports.next_port.Goals as goal

pub returns-in-Some-clause-own : goal.returns-in-Some-clause-own
returns-in-Some-clause-own c = λ name n these.
    numbered-last name n c.args.ports.now.items c.pop.new.self.items c.in-Some.port (c.pop.ensures.items ∙ ap (λ (port : Option _). c.pop.new.self.items ++ option_to_list port) c.in-Some.is) these

use Rattle.std.proofs.Common.{Option, ap, ◌++◌, ◌∙◌}
use Rattle.std.specs.Option.{option_to_list}
use Rattle.tb_service.proofs.OwnPlaces.{numbered-last}
use Rattle.tb_test_service.proofs.making.next_port.Goals as goal

pub returns-in-Some : goal.returns-in-Some
returns-in-Some g c = λ name n these.
    numbered-last name n c.args.ports.now.items c.pop.new.self.items c.in-Some.port (c.pop.ensures.items ∙ ap (λ (port : Option _). c.pop.new.self.items ++ option_to_list port) c.in-Some.is) these

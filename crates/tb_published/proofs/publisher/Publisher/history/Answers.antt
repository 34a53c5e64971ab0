use Rattle.std.proofs.Common.{subst}
use mathlib.Core.List.{IsPrefix}
use Rattle.tb_published.specs.Openings.{Ends}
use Rattle.tb_published.proofs.Tied.{shown_front}
use Rattle.tb_published.proofs.publisher.Publisher.history.Goals as goal

pub returns-clause-shown : goal.returns-clause-shown
returns-clause-shown g c = subst (λ (e : Ends). IsPrefix e.shown e.history) c.self.view_is (shown_front c.self.invariant)

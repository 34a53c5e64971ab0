use Rattle.std.proofs.Common.{rules, Option, Some, None, IfSome}
use Rattle.tb_sessions.proofs.table.serve_by_client.Goals as goal

of_some : {X : Type 0} {P Q : X → Type 0} (o : Option X) → ((x : X) → P x → Q x) → IfSome o P → IfSome o Q
of_some None f p = p
of_some (Some x) f p = f x p

pub returns-clause-served : goal.returns-clause-served
returns-clause-served g c = of_some c.update.result (λ answer changed.
    let called = changed.called in
    record {
      row = changed.value;
      left = changed.left;
      found = rw c.client-client.ensures at changed.found;
      written = rw c.client-client.ensures at changed.written;
      beside = record { new = search rules; served = search rules; told = search rules; same_row = search rules; unchanged = search rules };
    }) c.update.ensures.changed

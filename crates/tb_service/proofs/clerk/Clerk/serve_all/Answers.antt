use Rattle.std.proofs.Common.{◌≡◌, ◌+◌, List, ℕ, [], ◌∷◌, ◌++◌, length, replicate, sym, ap, ◌∙◌, append_assoc, append-nil, length-append, arith}
use Rattle.std.proofs.lemmas.List.{length-replicate}
use Rattle.tb_service.specs.Clerks.{server_state}
use Rattle.tb_service.proofs.Turns.{serves_on_none, serves_on_more}
use Rattle.tb_service.proofs.Serving.{replicate-snoc, uses_none, uses_one_more}
use Rattle.tb_service.proofs.clerk.Clerk.serve_all.Goals as goal

pub loop-request-init : goal.loop-request-init
loop-request-init g c =
    let clerk = c.args.self.now in
    record {
      served = serves_on_none g.J.Naming.opening g.M.Moments.tells g.G.Gate.passes (server_state clerk) (length clerk.ports.items + 1) clerk.refused.items;
      ports = sym (append-nil clerk.ports.items);
      capacity = uses_none clerk;
    }

pub loop-request-preserved : goal.loop-request-preserved
loop-request-preserved g c =
    let first = c.args.self.now in
    let before = c.loop-request.self in
    let after = c.serve.new.self in
    let so_far = c.loop-request.invariant in
    let yielded = c.loop-request.yielded in
    let request = c.in-Some.request in
    let port = c.args.port in
    let places : length before.ports.items ≡ length first.ports.items + length yielded =
    ap length so_far.ports ∙ length-append first.ports.items (replicate (length yielded) port) ∙ ap (λ (n : ℕ). length first.ports.items + n) (length-replicate (length yielded) port) in
    record {
      served = serves_on_more g.J.Naming.opening g.M.Moments.tells g.G.Gate.passes (server_state first) (server_state before) (server_state after) (length first.ports.items + 1) (length before.ports.items + 1)
          yielded (request ∷ []) first.refused.items before.refused.items after.refused.items (omega arith) so_far.served c.serve.ensures.served;
      ports = c.serve.ensures.ports ∙ ap (λ (l : List ℕ). l ++ port ∷ []) so_far.ports ∙ append_assoc first.ports.items (replicate (length yielded) port) (port ∷ [])
          ∙ ap (λ (l : List ℕ). first.ports.items ++ l) (sym (replicate-snoc yielded request port));
      capacity = uses_one_more (length yielded) (length (yielded ++ request ∷ [])) first before after (sym (length-append yielded (request ∷ []))) so_far.capacity c.serve.ensures.capacity;
    }

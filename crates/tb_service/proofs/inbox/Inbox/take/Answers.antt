use Rattle.std.proofs.Common.{ap, subst, sym, ℕ, Bool, false, List, length, slice_index_or, ◌<◌, ◌∙◌}
use Rattle.crossbeam_channel.specs.Claims.{view}
use Rattle.tb_service.specs.Sent.{closes, is_port_closed}
use Rattle.tb_service.specs.declared.rule.View.{View}
use Rattle.tb_service.proofs.Steps.{takes, silent}
use Rattle.tb_service.proofs.Flags.{not_close, flags_set, flags_kept}
use Rattle.tb_service.proofs.inbox.Inbox.take.Goals as goal

pub recv_as-requires-clause-rule : goal.recv_as-requires-clause-rule
recv_as-requires-clause-rule g c = let pass = c.args.self.now.pass in (takes pass.id (view pass) c.args.self.now.serves, silent pass.id (view pass))

pub invariant_of-self-in-Close-clause-closes : goal.invariant_of-self-in-Close-clause-closes
invariant_of-self-in-Close-clause-closes g c =
    let inbox = c.args.self.now in
    let told = c.in-Ok.ensures.rule in
    let order = c.in-Ok.order in
    let taken = (view inbox.pass).taken in
    let there : order.port < length inbox.closed.items = subst (λ (n : ℕ). order.port < n) (sym inbox.counted) told.1 in
    λ p.
    ap (λ (v : View). is_port_closed p v.taken) told.0
    ∙ flags_set taken order inbox.closed.items inbox.closes (ap closes c.in-Close.is) there p
    ∙ ap (λ (flags : List Bool). slice_index_or flags p false) (sym c.mark.ensures)

pub invariant_of-self-in_default-what-clause-closes : goal.invariant_of-self-in_default-what-clause-closes
invariant_of-self-in_default-what-clause-closes g c =
    let inbox = c.args.self.now in
    let told = c.in-Ok.ensures.rule in
    let order = c.in-Ok.order in
    λ p.
    ap (λ (v : View). is_port_closed p v.taken) told.0
    ∙ flags_kept (view inbox.pass).taken order inbox.closed.items inbox.closes (not_close order.what c.in_default-what.not-Close) p

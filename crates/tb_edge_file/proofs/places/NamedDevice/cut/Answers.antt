use Rattle.std.proofs.Common.{◌≡◌, drop, [], ap, subst, ◌∙◌, Ok}
use Rattle.tb_file_journal.specs.Device.{Looks}
use Rattle.tb_edge_file.specs.Places.{IsNothingAt, failed_further, named_disk}
use Rattle.tb_edge_file.specs.Refusals.{refused}
use Rattle.tb_edge_file.proofs.NamedDisks.{cuts_nothing}
use Rattle.tb_edge_file.proofs.places.NamedDevice.cut.Goals as goal

pub returns-clause-cuts : goal.returns-clause-cuts
returns-clause-cuts g c = λ tells.
    let disk = g.D.Device.disk in
    let before = c.args.self.now in
    let shown = c.look.new.self in
    let same = ap (λ device. failed_further (disk device) (refused shown.refusals) shown.lost) c.look.ensures.device
    ∙ ap (λ refusals. failed_further (disk before.device) (refused refusals) shown.lost) c.look.ensures.refusals
    ∙ ap (λ lost. failed_further (disk before.device) (refused before.refusals) lost) c.look.ensures.lost in
    let nothing = c.in_ok-set_aside.ensures.nothing (disk shown.device).seen (g.met.D.Device.holds_seen shown.device tells) in
    cuts_nothing c.args.len c.in_ok-set_aside.field-0 (named_disk disk before) (named_disk disk c.set_aside.new.self)
    (subst (λ device. drop c.args.len (disk device).seen ≡ []) c.look.ensures.device
    (subst (λ more. IsNothingAt c.args.len (disk shown.device).seen (Ok more)) c.if-branch.false nothing))
    (subst (λ seen. Looks (Ok c.in_ok-set_aside.field-0) seen (named_disk disk c.set_aside.new.self)) same (c.in_ok-set_aside.ensures.looks tells))

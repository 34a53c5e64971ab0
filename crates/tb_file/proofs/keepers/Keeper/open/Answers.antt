use Rattle.std.proofs.Common.{sym, subst, List, ℕ, ◌∙◌}
use Rattle.tb_file.specs.Recovering.{IsRestoredFrom}
use Rattle.tb_file.proofs.Opened.{refused_still}
use Rattle.tb_file.proofs.keepers.Keeper.open.Goals as goal

pub open_unless_torn_long-requires-clause-restored : goal.open_unless_torn_long-requires-clause-restored
open_unless_torn_long-requires-clause-restored g c t =
    let old = g.D.Device.disk c.args.device in (
      λ sound. c.in-Ok.ensures.kept t (sym (c.in-Ok.ensures.sound t) ∙ sound),
      subst (λ (f : List ℕ). IsRestoredFrom c.args.rules.profile c.args.rules.clients_max f c.in-Ok.machine c.in-Ok.extent) (sym (c.replay_journal.ensures.untouched t).seen)
          (c.in-Ok.ensures.found old.seen (g.met.D.Device.holds_seen c.args.device t)),
    )

pub returns-in-Ok-clause-refused : goal.returns-in-Ok-clause-refused
returns-in-Ok-clause-refused g c t =
    let disk = g.D.Device.disk in
    refused_still disk c.args.rules.profile c.args.rules.clients_max (disk c.args.device) (disk c.replay_journal.new.device) c.open_unless_torn_long.result
    (g.met.D.Device.counts_now c.replay_journal.new.device) (c.replay_journal.ensures.untouched t) (c.open_unless_torn_long.ensures.refused t)

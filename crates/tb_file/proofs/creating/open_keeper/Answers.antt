use Rattle.std.proofs.Common.{Ok, sym, subst, ◌∙◌, ap}
use Rattle.tb_file_journal.specs.Device.{LeavesOnly}
use Rattle.tb_file_journal.specs.Ready.{Kept, IsReady}
use Rattle.tb_file.specs.Recovering.{HasStartCause}
use Rattle.tb_file.specs.private.Headed.{OpensOnly}
use Rattle.tb_file.proofs.creating.open_keeper.Goals as goal

pub returns-in-Ok-clause-serves : goal.returns-in-Ok-clause-serves
returns-in-Ok-clause-serves g c = (
  record { kept = c.new.ensures.usable; journal = ap (λ (j : Kept g.row.D.Denot). j.usable) c.new.ensures.journal ∙ c.in-Ok.ensures.usable },
  λ t sound.
      let opened = c.in-Ok.ensures.opened t sound in
      record {
        ready = subst (λ (j : Kept g.row.D.Denot). IsReady g.D.Device.disk j) (sym c.new.ensures.journal) opened.ready;
        none_waits = ap (λ (j : Kept g.row.D.Denot). j.waiting) c.new.ensures.journal ∙ opened.none_waits;
      },
)

pub returns-in-Ok-clause-any_moment : goal.returns-in-Ok-clause-any_moment
returns-in-Ok-clause-any_moment g c t sound =
    let rules = c.args.rules in
    let before = g.D.Device.disk c.args.device in
    subst (λ (j : Kept g.row.D.Denot). LeavesOnly before (g.D.Device.disk j.device) (OpensOnly rules.profile rules.clients_max before)) (sym c.new.ensures.journal)
    (c.in-Ok.ensures.any_moment t sound)

pub returns-in-Ok-clause-cause : goal.returns-in-Ok-clause-cause
returns-in-Ok-clause-cause g c t =
    subst (λ (j : Kept g.row.D.Denot). HasStartCause (Ok tt) (g.D.Device.disk c.args.device) (g.D.Device.disk j.device)) (sym c.new.ensures.journal) (c.in-Ok.ensures.cause t)

pub returns-in-Ok-clause-any_device : goal.returns-in-Ok-clause-any_device
returns-in-Ok-clause-any_device g c = (c.new.ensures.state, c.new.ensures.cut)

pub returns-in-Ok-clause-aside : goal.returns-in-Ok-clause-aside
returns-in-Ok-clause-aside g c = c.in-Ok.ensures.aside

pub returns-in-Err-clause-any_moment : goal.returns-in-Err-clause-any_moment
returns-in-Err-clause-any_moment g c = c.in-Err.ensures.any_moment

pub returns-in-Err-clause-fault : goal.returns-in-Err-clause-fault
returns-in-Err-clause-fault g c = c.in-Err.ensures.fault

pub returns-in-Err-clause-cause : goal.returns-in-Err-clause-cause
returns-in-Err-clause-cause g c = c.in-Err.ensures.cause

pub returns-in-Err-clause-any_device : goal.returns-in-Err-clause-any_device
returns-in-Err-clause-any_device g c = c.in-Err.ensures.outside

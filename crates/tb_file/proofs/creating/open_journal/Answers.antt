use Rattle.tb_file.specs.Creating.{why_left}
use Rattle.tb_file.specs.private.Headed.{journal_left}
use Rattle.tb_file.proofs.Causes.{has_start_of_device}
use Rattle.tb_file.proofs.creating.open_journal.Goals as goal

pub returns-then-count-eq0-clause-cause : goal.returns-then-count-eq0-clause-cause
returns-then-count-eq0-clause-cause g c t =
    has_start_of_device (g.D.Device.disk c.args.device) (g.D.Device.disk c.in-Ok.journal.device) (g.D.Device.disk (journal_left c.add_head.result))
    (c.in-Ok.ensures.cause t).ok (why_left c.add_head.result) (c.add_head.ensures.cause t)

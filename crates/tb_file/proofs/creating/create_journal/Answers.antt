use Rattle.tb_file.specs.Creating.{why_left}
use Rattle.tb_file.specs.private.Headed.{journal_left}
use Rattle.tb_file.proofs.Causes.{has_create_of_device}
use Rattle.tb_file.proofs.creating.create_journal.Goals as goal

pub returns-in-Ok-clause-cause : goal.returns-in-Ok-clause-cause
returns-in-Ok-clause-cause g c t =
    has_create_of_device (g.D.Device.disk c.args.device) (g.D.Device.disk c.in-Ok.journal.device) (g.D.Device.disk (journal_left c.add_head.result))
    (c.in-Ok.ensures.cause t).ok (c.in-Ok.ensures.blank t).0 (why_left c.add_head.result) (c.add_head.ensures.cause t)

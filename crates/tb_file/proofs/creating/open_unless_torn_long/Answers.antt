use Rattle.tb_file.proofs.Opened.{opens_file, were_aside}
use Rattle.tb_file.proofs.TornBytes.{has_torn_start, opens_torn, refused_torn}
use Rattle.tb_file.proofs.creating.open_unless_torn_long.Goals as goal

pub returns-in-Err-clause-refused : goal.returns-in-Err-clause-refused
returns-in-Err-clause-refused g c t =
    let disk = g.D.Device.disk in
    let seen = (disk c.args.device).seen in
    let found = (c.requires.restored t).1 in
    refused_torn c.in-Err.fault c.from.result c.from.ensures c.args.rules.profile c.args.rules.clients_max (disk c.args.device) (disk c.torn_behind.new.device)
    (c.in-Err.ensures.torn seen (g.met.D.Device.holds_seen c.args.device t) found.extent_is) (c.torn_behind.ensures.stays t).untouched

pub returns-in-Err-clause-cause : goal.returns-in-Err-clause-cause
returns-in-Err-clause-cause g c t = has_torn_start _ _ c.in-Err.fault c.from.result c.from.ensures (c.in-Err.ensures.cause t).cause

pub returns-in-Err-clause-handed : goal.returns-in-Err-clause-handed
returns-in-Err-clause-handed g c file holds found =
    opens_torn c.in-Err.fault c.from.result c.from.ensures c.args.rules.profile c.args.rules.clients_max file (c.in-Err.ensures.torn file holds found.extent_is)

pub returns-in-Ok-clause-handed : goal.returns-in-Ok-clause-handed
returns-in-Ok-clause-handed g c file holds found =
    let torn = c.in-Ok.ensures.torn file holds found.extent_is in
    opens_file c.args.rules.profile c.args.rules.clients_max file c.args.machine c.args.extent c.in-Ok.torn found torn.0 torn.1 c.open_keeper.result c.open_keeper.ensures.any_device

pub returns-in-Ok-clause-aside : goal.returns-in-Ok-clause-aside
returns-in-Ok-clause-aside g c file holds read =
    were_aside g.D.Device.aside file c.args.machine c.args.extent c.in-Ok.torn read (c.in-Ok.ensures.torn file holds read).0
    c.open_keeper.result c.open_keeper.ensures.any_device (c.open_keeper.ensures.aside file (c.in-Ok.ensures.same file holds))

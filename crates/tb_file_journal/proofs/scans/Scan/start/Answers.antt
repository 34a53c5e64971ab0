use Rattle.std.proofs.Common.{inl}
use Rattle.tb_file_journal.proofs.scans.Scan.start.Goals as goal

pub returns-in-Some-clause-seen : goal.returns-in-Some-clause-seen
returns-in-Some-clause-seen g c t = (c.in-Ok.ensures.looks t).seen

pub returns-in-Some-clause-untouched : goal.returns-in-Some-clause-untouched
returns-in-Some-clause-untouched g c t = (c.in-Ok.ensures.looks t).any_moment

pub returns-in-None-clause-seen : goal.returns-in-None-clause-seen
returns-in-None-clause-seen g c t = (c.in-Ok.ensures.looks t).seen

pub returns-in-None-clause-untouched : goal.returns-in-None-clause-untouched
returns-in-None-clause-untouched g c t = (c.in-Ok.ensures.looks t).any_moment

pub returns-in-Err-clause-seen : goal.returns-in-Err-clause-seen
returns-in-Err-clause-seen g c t = (c.in-Err.ensures.looks t).seen

pub returns-in-Err-clause-untouched : goal.returns-in-Err-clause-untouched
returns-in-Err-clause-untouched g c t = (c.in-Err.ensures.looks t).any_moment

pub returns-in-Some-clause-begun : goal.returns-in-Some-clause-begun
returns-in-Some-clause-begun g c file held = c.in-Some.ensures file (c.in-Ok.ensures.ahead file held)

pub returns-in-Some-clause-kept : goal.returns-in-Some-clause-kept
returns-in-Some-clause-kept g c t sound = ((c.in-Ok.ensures.looks t).settled sound).kept

pub returns-in-Some-clause-sound : goal.returns-in-Some-clause-sound
returns-in-Some-clause-sound g c t = c.in-Ok.ensures.sound t

pub returns-in-Some-clause-cause : goal.returns-in-Some-clause-cause
returns-in-Some-clause-cause g c t = record { ok = (c.in-Ok.ensures.cause t).ok; cause = tt }

pub returns-in-None-clause-begun : goal.returns-in-None-clause-begun
returns-in-None-clause-begun g c file held = c.in-None.ensures file (c.in-Ok.ensures.ahead file held)

pub returns-in-None-clause-cause : goal.returns-in-None-clause-cause
returns-in-None-clause-cause g c t =
    let file = (g.D.Device.disk c.args.device.now).seen in
    record { ok = tt; cause = (c.in-None.ensures file (c.in-Ok.ensures.ahead file (g.met.D.Device.holds_seen c.args.device.now t)), (c.in-Ok.ensures.cause t).ok) }

pub returns-in-Err-clause-cause : goal.returns-in-Err-clause-cause
returns-in-Err-clause-cause g c t = record { ok = tt; cause = inl (c.in-Err.ensures.cause t).cause }

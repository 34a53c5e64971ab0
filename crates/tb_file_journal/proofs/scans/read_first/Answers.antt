use Rattle.std.proofs.Common.{inl, inr, refl, ◌∙◌, Err}
use Rattle.tb_file_journal.proofs.Causes.{cause_since, none_at_once, none_since}
use Rattle.tb_file_journal.proofs.Scanning.{left_at_first, left_by_sync, left_by_look, looks_kept, nothing_ahead}
use Rattle.tb_file_journal.proofs.scans.read_first.Goals as goal

pub returns-in-Err-clause-looks : goal.returns-in-Err-clause-looks
returns-in-Err-clause-looks g c t = record { settled = λ _. tt; seen = refl; any_moment = left_at_first (g.D.Device.disk c.args.device.now) (g.met.D.Device.only_now c.args.device.now) }

pub returns-in-Err-clause-cause : goal.returns-in-Err-clause-cause
returns-in-Err-clause-cause g c t = record { ok = tt; cause = inr (refl, none_at_once (g.D.Device.disk c.args.device.now)) }

pub returns-in-Err-sync-clause-looks : goal.returns-in-Err-sync-clause-looks
returns-in-Err-sync-clause-looks g c t =
    let syncs = c.in-Err-sync.ensures.syncs t in
    record {
      settled = λ _. tt;
      seen = syncs.seen;
      any_moment = left_by_sync (g.D.Device.disk c.args.device.now) (g.D.Device.disk c.sync.new.self) (Err c.in-Err-sync.fault) (g.met.D.Device.only_now c.args.device.now) syncs;
    }

pub returns-in-Err-sync-clause-cause : goal.returns-in-Err-sync-clause-cause
returns-in-Err-sync-clause-cause g c t = record { ok = tt; cause = inl (c.in-Err-sync.ensures.syncs t).cause.cause }

pub returns-in-Ok-fill-clause-looks : goal.returns-in-Ok-fill-clause-looks
returns-in-Ok-fill-clause-looks g c t =
    looks_kept c.fill.new.self (g.D.Device.disk c.args.device.now) (g.D.Device.disk c.sync.new.self) (g.D.Device.disk c.fill.new.device) (g.met.D.Device.only_now c.args.device.now)
    (c.in_default.ensures.syncs t) (c.in-Ok-fill.ensures.looks t)

pub returns-in-Ok-fill-clause-sound : goal.returns-in-Ok-fill-clause-sound
returns-in-Ok-fill-clause-sound g c t = (c.in-Ok-fill.ensures.looks t).sound ∙ (c.in_default.ensures.syncs t).sound

pub returns-in-Ok-fill-clause-cause : goal.returns-in-Ok-fill-clause-cause
returns-in-Ok-fill-clause-cause g c t = record {
  ok = none_since (g.D.Device.disk c.args.device.now) (g.D.Device.disk c.sync.new.self) (g.D.Device.disk c.fill.new.device) (c.in_default.ensures.syncs t).cause.ok (c.in-Ok-fill.ensures.cause t).ok;
  cause = tt;
}

pub returns-in-Ok-fill-clause-ahead : goal.returns-in-Ok-fill-clause-ahead
returns-in-Ok-fill-clause-ahead g c file held =
    c.in-Ok-fill.ensures.ahead file (c.in_default.ensures.same file held) (nothing_ahead 0 file c.in-Ok.window.ahead c.in-Ok.ensures)

pub returns-in-Err-fill-clause-looks : goal.returns-in-Err-fill-clause-looks
returns-in-Err-fill-clause-looks g c t =
    let syncs = c.in_default.ensures.syncs t in
    let looks = c.in-Err-fill.ensures.looks t in
    record {
      settled = λ _. tt;
      seen = looks.seen ∙ syncs.seen;
      any_moment = left_by_look (g.D.Device.disk c.args.device.now) (g.D.Device.disk c.sync.new.self) (g.D.Device.disk c.fill.new.device) _ (g.met.D.Device.only_now c.args.device.now) syncs looks;
    }

pub returns-in-Err-fill-clause-cause : goal.returns-in-Err-fill-clause-cause
returns-in-Err-fill-clause-cause g c t = record {
  ok = tt;
  cause = cause_since (g.D.Device.disk c.args.device.now) (g.D.Device.disk c.sync.new.self) (g.D.Device.disk c.fill.new.device) c.in-Err-fill.fault
      (c.in_default.ensures.syncs t).cause.ok (c.in-Err-fill.ensures.cause t).cause;
}

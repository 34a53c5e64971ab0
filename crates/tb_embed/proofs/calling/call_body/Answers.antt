use Rattle.std.proofs.Common.{ℕ, List, ◌++◌, length, refl, sym, ap, ◌∙◌, subst}
use Rattle.std.proofs.Math.ListN.{drop}
use Rattle.tb_records.specs.Frames.{request_bytes}
use Rattle.tb_caller.specs.Clients.{Client, made, called}
use Rattle.tb_embed.specs.Callers.{HasNumbers}
use Rattle.tb_embed.specs.private.Calling.{stored}
use Rattle.tb_embed.specs.declared.steps.TbCaller.{TbCaller}
use Rattle.tb_embed.proofs.Clients.{numbers_read, not_resting, frame_filled, numbers_stored}
use Rattle.tb_embed.proofs.calling.call_body.Goals as goal

pub returns-in-Err : goal.returns-in-Err
returns-in-Err c = not_resting c.in-Err.step c.args.kept.now c.args.body c.args.room.now c.in-Err.ensures

pub returns-in-Err-call : goal.returns-in-Err-call
returns-in-Err-call c =
    let is = numbers_read c.args.kept.now c.id-id.result c.in-Ok.phase c.in-Ok-from_fields.caller c.id-id.ensures c.in-Ok.ensures.0 c.in-Ok-from_fields.ensures in
    (c.in-Ok-from_fields.caller, is.numbers, c.in-Err-call.ensures.0, refl)

pub returns : goal.returns
returns c =
    let kept = c.args.kept.now in
    let caller = c.in-Ok-from_fields.caller in
    let body = c.args.body in
    let is = numbers_read kept c.id-id.result c.in-Ok.phase caller c.id-id.ensures c.in-Ok.ensures.0 c.in-Ok-from_fields.ensures in
    let wrote = c.in_default.ensures in
    let next = called caller (made caller body) in
    let same = c.store.ensures ∙ ap (λ (d : Client). stored kept d) wrote.1 in
    let filled = frame_filled (length c.as_slice-bytes.result.now) c.copy_from_slice.new.self c.call.new.out.items (drop (length c.as_slice-bytes.result.now) c.args.room.now) (made caller body) (c.copy_from_slice.ensures.after ∙ c.as_slice-bytes.ensures.value) (ap length c.as_slice-bytes.ensures.value) (wrote.2 ∙ ap (λ (before : List ℕ). before ++ request_bytes (made caller body)) c.new-frame.ensures.items) wrote.3 in
    (caller, is.numbers, wrote.0, filled.0, (subst (λ (k : TbCaller). HasNumbers k next) (sym same) (numbers_stored kept caller next refl is.numbers), filled.1))

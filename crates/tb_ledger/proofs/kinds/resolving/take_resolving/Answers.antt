use Rattle.tb_ledger.proofs.Common.{◌≡◌, ◌==◌, ◌^◌, ◌<◌, ◌||◌, find, refl, sym, subst, ap, ◌∙◌, transfer_result_code, Judges, posts, transfer_at, books_in, filled, recorded_transfer, has_flag}
use Rattle.tb_ledger.proofs.Accepted.{id_free, found_stamped}
use Rattle.tb_ledger.proofs.Refusals.{decides_none}
use Rattle.tb_ledger.proofs.SoundLaws.{filled_flags}
use Rattle.tb_ledger.proofs.VerdictLaws.{resolving_verdict, filled_id, filled_pending_id, filled_posts, same_closed_code}
use Rattle.tb_ledger.proofs.kinds.resolving.take_resolving.Goals as goal

pub returns : goal.returns
returns g c =
    let B = books_in c.args.work.now.rows in
    let t = c.args.t.now in
    let found = c.in_ok-pending.field-0 in
    let its = c.in_ok-pending.ensures in
    let p = found.pending.now.recorded in
    let posts_is : posts (record (found.filled) { timestamp = c.args.time }) ≡ posts t = ap posts its.filled ∙ filled_posts B t in
    let verdict = same_closed_code B (record (found.filled) { timestamp = c.args.time }) t p posts_is ∙ sym its.left ∙ sym (resolving_verdict B t c.args.time c.requires.free c.requires.resolving) in
    let recorded : recorded_transfer B t c.args.time ≡ record (filled B t) { timestamp = c.args.time } = rw c.requires.resolving refl in
    record {
      judged = subst (Judges transfer_result_code c.settle.result) verdict c.settle.ensures.judged;
      done = rw (recorded, sym its.filled) c.settle.ensures.done;
      refused = c.settle.ensures.refused;
      leaves = c.settle.ensures.leaves;
    }

pub settle-requires-clause-resolution : goal.settle-requires-clause-resolution
settle-requires-clause-resolution g c =
    let B = books_in c.args.work.now.rows in
    let t = c.args.t.now in
    let its = c.in_ok-pending.ensures in
    let flags = ap (λ f. f.flags) its.filled ∙ filled_flags B t in
    record {
      fresh = ap (transfer_at B) (ap (λ f. f.id) its.filled ∙ filled_id B t) ∙ id_free B t c.requires.free;
      found = ap (λ id. find (λ row. row.recorded.id == id) c.args.work.now.rows.transfers.items) (ap (λ f. f.pending_id) its.filled ∙ filled_pending_id B t) ∙ its.pending;
      plain = subst (λ flags. flags < 2 ^ 8) (sym flags) c.requires.plain;
      is_resolver = ap (λ flags. has_flag 4 flags || has_flag 8 flags) flags ∙ c.requires.resolving;
      pending = found_stamped B c.in_ok-pending.field-0.filled c.args.time its.found;
    }

pub returns-in_err-pending : goal.returns-in_err-pending
returns-in_err-pending g c =
    let t = c.args.t.now in
    let judged = c.in_err-pending.ensures.refused in
    let verdict = resolving_verdict (books_in c.args.work.now.rows) t c.args.time c.requires.free c.requires.resolving in
    decides_none transfer_result_code _ _ c.args.work.now _ c.from_residual.result c.in_err-pending.field-0.0 c.requires.ready.kept c.from_residual.ensures.1 (verdict ∙ judged.0, judged.1) refl

use Rattle.tb_ledger.proofs.Common.{if◌then◌else◌, refl, sym, ◌∙◌, transfer_result_code, resolves, books_in, id_code, resolve_code, single_code}
use Rattle.tb_ledger.proofs.FailedLaws.{refusal_is_new}
use Rattle.tb_ledger.proofs.Refusals.{decides_none}
use Rattle.tb_ledger.proofs.VerdictLaws.{pair_first}
use Rattle.tb_ledger.proofs.kinds.transfer.TransferEvent.take.Goals as goal

pub returns-in_err-judge_id-clause-takes : goal.returns-in_err-judge_id-clause-takes
returns-in_err-judge_id-clause-takes g c =
    let B = books_in c.args.work.now.rows in
    let t = c.args.self.now in
    let judged = c.in_err-judge_id.ensures.judged in
    let verdict = pair_first (id_code B t) (if resolves t then resolve_code B t else single_code B t c.args.time) (λ none. judged.1 (sym judged.0 ∙ none)) in
    decides_none transfer_result_code _ _ c.args.work.now _ c.from_residual.result c.in_err-judge_id.field-0.0 c.requires.ready.kept c.from_residual.ensures.1 (verdict ∙ judged.0, judged.1) refl

pub returns-in_err-judge_id-clause-fresh : goal.returns-in_err-judge_id-clause-fresh
returns-in_err-judge_id-clause-fresh g c = refusal_is_new (books_in c.args.work.now.rows) c.args.self.now c.args.time c.from_residual.result (returns-in_err-judge_id-clause-takes g c).judged

pub returns-then-resolving-clause-fresh : goal.returns-then-resolving-clause-fresh
returns-then-resolving-clause-fresh g c = refusal_is_new (books_in c.args.work.now.rows) c.args.self.now c.args.time c.take_resolving.result c.take_resolving.ensures.judged

pub returns-else-resolving-clause-fresh : goal.returns-else-resolving-clause-fresh
returns-else-resolving-clause-fresh g c = refusal_is_new (books_in c.args.work.now.rows) c.args.self.now c.args.time c.take_two_party.result c.take_two_party.ensures.judged

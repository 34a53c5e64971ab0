use Rattle.std.proofs.Common.{◌≡◌, ◌++◌, Ok, Err, suc, length, drop, sym, ap, refl, subst, ◌∙◌}
use Rattle.std.proofs.lemmas.Iterator.{YieldsList-from_chars}
use Rattle.std.proofs.lemmas.Iterator.Consumers.{YieldsList-so_far, YieldsList-turn, YieldsList-end}
use Rattle.std.proofs.lemmas.List.{map-id}
use Rattle.std.proofs.lemmas.Result.{err_from_is_err_and}
use Rattle.std.specs.Char.{encode_utf8}
use Rattle.std.specs.Str.{chars}
use Rattle.tb_records.specs.Transport.{Sent}
use Rattle.tb_records.proofs.Sendings.{sent_rest, sent_few}
use Rattle.tb_edge_file.specs.Printable.{printable, printable_char}
use Rattle.tb_edge_file.proofs.PrintedText.{printed, printed_more, printed_whole}
use Rattle.tb_edge_file.proofs.printable.put_printable.Goals as goal

pub loop-character-preserved : goal.loop-character-preserved
loop-character-preserved g c =
    let bytes : c.as_bytes.result.now ≡ encode_utf8 (printable_char c.in-Some.character) = c.as_bytes.ensures.value ∙ (c.encode_utf8-shown.ensures.value ∙ ap encode_utf8 c.printable_char.ensures) in
    sent_rest _ _ _ _ _ _ (printed_more c.loop-character.yielded c.in-Some.character) c.loop-character.invariant (Ok tt) (rw bytes at c.in_ok-put_all.ensures)

pub returns-in_err-put_all : goal.returns-in_err-put_all
unfolding printable
returns-in_err-put_all g c =
    let cs = c.loop-character.yielded in
    let all = chars c.args.text.now in
    let road = YieldsList-from_chars c.args.text.now c.utf8.text cc in
    let turn = YieldsList-turn road cs _ c.loop-character.yielded_by _ _ c.in-Some.character c.in-Some.is c.next.ensures.steps in
    let so_far = sym (map-id cs) ∙ YieldsList-so_far road cs _ c.loop-character.yielded_by in
    let bytes : c.as_bytes.result.now ≡ encode_utf8 (printable_char c.in-Some.character) = c.as_bytes.ensures.value ∙ (c.encode_utf8-shown.ensures.value ∙ ap encode_utf8 c.printable_char.ensures) in
    let p = err_from_is_err_and c.from_residual.result c.from_residual.ensures.1 in
    let cut = sent_rest _ _ _ _ _ (printed cs ++ encode_utf8 (printable_char c.in-Some.character)) refl c.loop-character.invariant (Err c.in_err-put_all.field-0.0) (rw bytes at c.in_err-put_all.ensures) in
    rw (p.1, p.2) (cut.0, sent_few _ (printed (drop (suc (length cs)) all)) (printed all) _ _ (printed_whole cs all c.in-Some.character so_far turn.0 turn.1) cut.1)

pub returns : goal.returns
unfolding printable
returns g c =
    let road = YieldsList-from_chars c.args.text.now c.utf8.text cc in
    let end = YieldsList-end road c.loop-character.yielded _ c.loop-character.yielded_by _ _ c.in-None.is c.next.ensures.steps in
    subst (λ cs. Sent (printed cs) (g.E.Sink.output c.args.faults.now) (g.E.Sink.output c.loop-character.faults)) (sym (map-id c.loop-character.yielded) ∙ end.0) c.loop-character.invariant

use Rattle.std.proofs.Common.{string_bytes, map, take, drop, length, ◌-◌}
use Rattle.tb_records.proofs.Sendings.{sent_rest, sent_few}
use Rattle.tb_edge_file.specs.ExitStatuses.{shown_words}
use Rattle.tb_edge_file.proofs.Lengths.{shown_front}
use Rattle.tb_edge_file.proofs.lines.+put_words.Goals as goal

pub returns-in-Err : goal.returns-in-Err
returns-in-Err g t c =
    let words = c.args.words.now in
    let front = shown_front string_bytes words c.word-item.result _ c.in-len1-up.len_at_least c.word-item.is in (
      c.in-Err.ensures.0,
      sent_few _ (shown_words (map string_bytes (take (length words - 1) (drop 1 words)))) (shown_words (map string_bytes words)) _ _
          (rw c.as_str.ensures.value front) c.in-Err.ensures.1,
    )

pub returns-in-Ok : goal.returns-in-Ok
returns-in-Ok g t c =
    let front = shown_front string_bytes c.args.words.now c.word-item.result _ c.in-len1-up.len_at_least c.word-item.is in
    sent_rest _ _ _ _ _ _ (rw c.as_str.ensures.value front) c.in-Ok.ensures c.put_words.result c.put_words.ensures

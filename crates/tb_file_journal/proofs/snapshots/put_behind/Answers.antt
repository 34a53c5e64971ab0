use Rattle.std.proofs.Common.{List, ℕ, length, take, drop, ◌++◌, ◌∙◌, ap, arith}
use Rattle.tb_file_journal.specs.Contents.{latch_closed}
use Rattle.tb_file_journal.proofs.Closing.{zeros_alone, latch_first}
use Rattle.tb_file_journal.proofs.snapshots.put_behind.Goals as goal

pub returns-then-skip-lt-LATCH_BYTES : goal.returns-then-skip-lt-LATCH_BYTES
returns-then-skip-lt-LATCH_BYTES c others room =
    let n = c.min-n.result in
    let size = length c.args.into.now in
    ap (λ (l : List ℕ). l ++ drop n c.fill.new.self) (c.copy_from_slice.ensures.after ∙ ap (λ (k : ℕ). take k (drop c.args.skip latch_closed)) (omega arith))
    ∙ ap (λ (l : List ℕ). take n (drop c.args.skip latch_closed) ++ drop n l) (c.fill.ensures.after (λ y h. h))
    ∙ latch_first c.args.skip size others room n c.if-skip-lt-LATCH_BYTES.true (omega (arith, c.min-n.ensures, c.fill.ensures.len))

pub returns-else-skip-lt-LATCH_BYTES : goal.returns-else-skip-lt-LATCH_BYTES
returns-else-skip-lt-LATCH_BYTES c others room =
    c.fill.ensures.after (λ y h. h) ∙ zeros_alone c.args.skip (length c.args.into.now) others room c.if-skip-lt-LATCH_BYTES.false

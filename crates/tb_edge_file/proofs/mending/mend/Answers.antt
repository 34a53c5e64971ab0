use Rattle.std.proofs.Common.{arith, ◌++◌, List, ℕ, take, drop, ap, ◌∙◌, length-drop}
use Rattle.tb_file_journal.specs.Contents.{magic}
use Rattle.tb_edge_file.proofs.Mends.{over}
use Rattle.tb_edge_file.proofs.mending.mend.Goals as goal

pub returns-then-at-lt8 : goal.returns-then-at-lt8
returns-then-at-lt8 c =
    let n = c.min-n.result in
    ap (λ (l : List ℕ). l ++ drop n c.args.bytes.now) (c.copy_from_slice.ensures.after ∙ ap (λ (k : ℕ). take k (drop c.args.at magic)) (omega arith))
    ∙ over n (drop c.args.at magic) c.args.bytes.now (omega (arith, c.min-n.ensures, length-drop c.args.at magic))

use Rattle.std.proofs.Common.{◌≡◌, List, ℕ, ◌++◌, take, ap, arith, ◌∙◌}
use Rattle.std.proofs.lemmas.List.{take_all}
use Rattle.tb_records.specs.DumpBytes.{signature, head_bytes}
use Rattle.tb_records.specs.Numbers.{le_bytes}
use Rattle.tb_records.proofs.dumps.bytes_of_head.Goals as goal

pub returns-clause-bytes : goal.returns-clause-bytes
unfolding head_bytes
returns-clause-bytes c =
    let numbered : take 12 c.put_u32.new.out ≡ signature ++ le_bytes 4 c.number_of.result = c.put_u32.ensures.written ∙ ap (λ (l : List ℕ). take 8 (l ++ _) ++ le_bytes 4 c.number_of.result) c.copy_from_slice.ensures.after in
    simp (← take_all 16 c.put_u32-2.new.out (omega arith), c.put_u32-2.ensures.written, numbered, c.number_of.ensures, c.get.ensures.value)

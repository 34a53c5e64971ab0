use Rattle.std.proofs.Common.{◌≡◌, ◌∙◌, ap, ◌++◌, arith}
use Rattle.std.proofs.lemmas.Grind.{common_steps}
use Rattle.tb_machine.proofs.JournalRecords.{appended}
use Rattle.tb_machine.proofs.restoring.write_entry.Goals as goal

pub returns-in-Ok-clause-ok : goal.returns-in-Ok-clause-ok
returns-in-Ok-clause-ok c =
    let one : c.extend_from_slice.new.self.items ≡ c.reserve.new.self.items ++ c.to_le_bytes.result = grind (arith, common_steps) in
    let two : c.extend_from_slice-2.new.self.items ≡ c.extend_from_slice.new.self.items ++ c.to_le_bytes-2.result = grind (arith, common_steps) in
    appended c.args.out.now.items c.extend_from_slice.new.self.items c.extend_from_slice-2.new.self.items c.write_request.new.out.items c.args.entry.now
    (one ∙ (λ i. c.reserve.ensures.items i ++ c.to_le_bytes.ensures i))
    (two ∙ ap (λ l. c.extend_from_slice.new.self.items ++ l) c.to_le_bytes-2.ensures)
    c.in-Ok.ensures.ok

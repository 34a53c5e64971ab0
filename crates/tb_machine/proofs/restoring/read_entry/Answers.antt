use Rattle.std.proofs.Common.{subst, ◌∙◌, List, ℕ, length, Ok, Err, arith}
use Rattle.std.proofs.lemmas.List.{take_all}
use Rattle.std.specs.List.{between}
use Rattle.tb_records.specs.Frames.{Spells}
use Rattle.tb_machine.proofs.JournalRecords.{one_record, long_record, frame_only, only_fault, fault_answers, rest_of, record_of}
use Rattle.tb_machine.proofs.restoring.read_entry.Goals as goal

pub returns-then-bytes-lt16-clause-only : goal.returns-then-bytes-lt16-clause-only
returns-then-bytes-lt16-clause-only c entry is = absurd (omega (arith, c.if-bytes-lt16.true, long_record c.args.bytes.now entry is))

pub returns-in-Ok-clause-answer : goal.returns-in-Ok-clause-answer
returns-in-Ok-clause-answer c =
    let bytes : List ℕ = c.args.bytes.now in
    let frame : List ℕ = between 16 (length bytes) bytes in
    record_of bytes (between 8 (length bytes) bytes) c.read_u64.result c.read_u64-in-Ok.result c.in-Ok.request (omega (arith, c.if-bytes-lt16.false)) (λ i. omega (arith, c.type_inv.bytes i))
    c.read_u64.ensures c.read_u64-in-Ok.ensures (rest_of 8 (length bytes) bytes (omega arith)) c.read_u64.type_inv c.read_u64-in-Ok.type_inv
    (subst (λ (l : List ℕ). Spells l c.in-Ok.request) (take_all c.in-Ok.length frame (omega (arith, c.if-length-frame.true)) ∙ rest_of 16 (length bytes) bytes (omega arith)) c.in-Ok.ensures.found.1)

pub returns-in-Ok-clause-only : goal.returns-in-Ok-clause-only
returns-in-Ok-clause-only c entry is = one_record c.args.bytes.now _ entry (returns-in-Ok-clause-answer c) is

pub returns-in-Ok-2-clause-only : goal.returns-in-Ok-2-clause-only
returns-in-Ok-2-clause-only c entry is =
    let bytes : List ℕ = c.args.bytes.now in
    let both = frame_only (Ok (c.in-Ok.request, c.in-Ok.length)) bytes (between 16 (length bytes) bytes) entry (rest_of 16 (length bytes) bytes (omega arith)) is c.in-Ok.ensures.only in
    absurd (c.if-length-frame.false both.1)

pub returns-in-Err-clause-answer : goal.returns-in-Err-clause-answer
returns-in-Err-clause-answer c =
    let bytes : List ℕ = c.args.bytes.now in
    fault_answers c.in-Err.fault bytes (between 16 (length bytes) bytes) (omega (arith, c.if-bytes-lt16.false)) (rest_of 16 (length bytes) bytes (omega arith)) c.in-Err.ensures.found

pub returns-in-Err-clause-only : goal.returns-in-Err-clause-only
returns-in-Err-clause-only c entry is =
    let bytes : List ℕ = c.args.bytes.now in
    let frame : List ℕ = between 16 (length bytes) bytes in
    only_fault c.in-Err.fault entry.request entry (length frame) (frame_only (Err c.in-Err.fault) bytes frame entry (rest_of 16 (length bytes) bytes (omega arith)) is c.in-Err.ensures.only)

-- The fault of a reply's header, by the parts of its tests.
use Rattle.std.proofs.Common.{◌≡◌, List, ℕ, ◌++◌, Some, None, sym, ◌∙◌, arith}
use Rattle.tb_records.specs.declared.reply_reading.ReplyHeader.{ReplyHeader}
use Rattle.tb_records.specs.declared.faults.FrameFault.{FrameFault}
use Rattle.tb_records.specs.Frames.{session_at, request_at, operation_at, length_at}
use Rattle.tb_records.specs.Messages.{status_code, first_fault}
use Rattle.tb_records.specs.ReplyFrames.{status_at, commit_at, reply_header_fault}
use Rattle.tb_records.specs.private.ReplyHeaders.{HasReplyFields}
use Rattle.tb_records.specs.ReplyTests.{reply_field_tests, reply_number_tests, number_tests, reply_length_tests}
use Rattle.tb_records.proofs.FirstFaults.{first_fault-some, first_fault-none}

-- a fault of a field
pub field_fault : (b : List ℕ) (f : FrameFault) → first_fault (reply_field_tests b) ≡ Some f → reply_header_fault b ≡ Some f
unfolding reply_header_fault
field_fault b f e = grind arith

-- a fault of the numbers
pub number_fault : (b : List ℕ) (h : ReplyHeader) (f : FrameFault) → HasReplyFields b h → first_fault (number_tests h.numbers) ≡ Some f → reply_header_fault b ≡ Some f
unfolding reply_header_fault
number_fault b h f of e =
    let numbers = reply_number_tests (operation_at b) (status_at b) (session_at b) (request_at b) (commit_at b) in
    let lengths = reply_length_tests (operation_at b) (status_at b) (length_at b) in
    first_fault-none (reply_field_tests b) (numbers ++ lengths) of.none
    ∙ first_fault-some numbers lengths f
    ((λ i. first_fault (reply_number_tests (sym of.operation i) (sym of.status i) (sym of.session i) (sym of.request i) (sym of.commit i))) ∙ e)

-- without a fault of the numbers the length decides
pub length_decides : (b : List ℕ) (h : ReplyHeader) (status : ℕ) → HasReplyFields b h → status ≡ status_code h.numbers.status
    → first_fault (number_tests h.numbers) ≡ None → reply_header_fault b ≡ first_fault (reply_length_tests h.numbers.operation status h.len)
unfolding reply_header_fault
length_decides b h status of es e = grind arith

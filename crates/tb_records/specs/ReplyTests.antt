-- The tests of a reply's header in parts: the fields by themselves, the numbers together, the length of the body.
use Rattle.std.specs.Prelude.{ℕ, Bool, not, ◌&&◌, ◌==◌, ◌/◌, nat_lt, List, [], ◌∷◌}
use Rattle.tb_records.specs.declared.bodies.ReplyBody.{ReplyBody}
use Rattle.tb_records.specs.declared.replies.Numbers.{Numbers}
use Rattle.tb_records.specs.declared.faults.FrameFault.{FrameFault}
use Rattle.tb_records.specs.declared.faults.FrameFault.TheVariants.{ClientZero, UnknownOperation, Reserved, BadLength, TooMany, RegisterNumbers, RequestZero, ReplyNumbers}
use Rattle.tb_records.specs.declared.operations.Operation.TheVariants as op
use Rattle.tb_records.specs.Frames.{client_at, operation_at}
use Rattle.tb_records.specs.Messages.{Answer, answered, status_code, is_operation, has_register_numbers, has_reply_numbers}
use Rattle.tb_records.specs.Numbers.{le_at}
use Rattle.tb_records.specs.Operations.{operation_code}
use Rattle.tb_records.specs.ReplyFrames.{status_at, reply_item_size, has_reply_length}
use Rattle.tb_records.specs.declared.limits.TheConstants.{ITEMS_MAX}

-- what may be wrong with a field by itself: the client, the operation, the status, the zero bytes
abbrev pub reply_field_tests : List ℕ → List (Bool × FrameFault)
reply_field_tests b =
    (client_at b == 0, ClientZero)
    ∷ (not (is_operation (operation_at b)), UnknownOperation)
    ∷ (not (nat_lt (status_at b) 8 && le_at 2 30 b == 0 && le_at 4 44 b == 0), Reserved)
    ∷ []

-- the reply of these numbers and this body
abbrev pub answer_of : Numbers → ReplyBody → Answer
answer_of n body = answered n.client n.session n.request n.operation n.status n.commit body

-- what may be wrong with the numbers, by the operation and the status
abbrev pub reply_number_tests : ℕ → ℕ → ℕ → ℕ → ℕ → List (Bool × FrameFault)
reply_number_tests operation status session request commit =
    (operation == operation_code op.Register && not (has_register_numbers status session request), RegisterNumbers)
    ∷ (not (operation == operation_code op.Register) && request == 0, RequestZero)
    ∷ (not (has_reply_numbers operation status session commit), ReplyNumbers)
    ∷ []

-- the same for the numbers of a reply
abbrev pub number_tests : Numbers → List (Bool × FrameFault)
number_tests n = reply_number_tests n.operation (status_code n.status) n.session n.request n.commit

-- what may be wrong with the length of the body, by the operation and the status
abbrev pub reply_length_tests : ℕ → ℕ → ℕ → List (Bool × FrameFault)
reply_length_tests operation status len =
    (not (has_reply_length operation status len), BadLength)
    ∷ (nat_lt ITEMS_MAX (len / reply_item_size operation), TooMany)
    ∷ []

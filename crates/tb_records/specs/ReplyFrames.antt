-- The frames of replies: a header of 48 bytes, and after it the results or records.
use Rattle.std.specs.Prelude.{ℕ, Bool, not, ◌≡◌, ◌==◌, ◌+◌, ◌/◌, ◌%◌, ◌^◌, ◌<◌, ◌≤◌, ◌&&◌, ◌||◌, nat_lt, List, [], ◌∷◌, ◌++◌, length, take, replicate, Option, Some, None, Result, Ok, Err, if◌then◌else◌}
use Rattle.std.specs.List.{All, flat_map}
use Rattle.tb_records.specs.declared.bodies.ReplyBody.{ReplyBody}
use Rattle.tb_records.specs.declared.bodies.ReplyBody.TheVariants.{Empty, Results, Accounts, Transfers}
use Rattle.tb_records.specs.declared.faults.FrameFault.{FrameFault}
use Rattle.tb_records.specs.declared.faults.FrameFault.TheVariants.{Short, ClientZero, UnknownOperation, Reserved, BadLength, TooMany, RegisterNumbers, RequestZero, NoMemory, ReplyNumbers}
use Rattle.tb_records.specs.declared.operations.Operation.TheVariants as op
use Rattle.tb_records.specs.Messages.{Answer, IsRight, kind_of, kind_for, status_code, first_fault, is_operation, has_register_numbers, has_reply_numbers}
use Rattle.tb_records.specs.Numbers.{le_bytes, le_at}
use Rattle.tb_records.specs.Operations.{operation_code}
use Rattle.tb_records.specs.RecordBytes.{account_bytes, transfer_bytes, result_bytes, IsAccount, IsTransfer, IsResult}
use Rattle.tb_records.specs.Frames.{client_at, session_at, request_at, operation_at, length_at}
use Rattle.tb_records.specs.declared.limits.TheConstants.{ITEMS_MAX}

-- the header of a reply
unfoldable pub reply_header_bytes : ℕ → ℕ → ℕ → ℕ → ℕ → ℕ → ℕ → List ℕ
reply_header_bytes client session request operation status len commit =
    le_bytes 16 client
    ++ le_bytes 8 session
    ++ le_bytes 4 request
    ++ le_bytes 1 operation
    ++ le_bytes 1 status
    ++ replicate 2 0
    ++ le_bytes 4 len
    ++ le_bytes 8 commit
    ++ replicate 4 0

-- one result or record after another
unfoldable pub reply_body_bytes : ReplyBody → List ℕ
reply_body_bytes Empty = []
reply_body_bytes (Results results) = flat_map result_bytes results
reply_body_bytes (Accounts accounts) = flat_map account_bytes accounts
reply_body_bytes (Transfers transfers) = flat_map transfer_bytes transfers

-- the frame of a reply
abbrev pub reply_bytes : Answer → List ℕ
reply_bytes r =
    reply_header_bytes r.client r.session r.request r.operation (status_code r.status) (length (reply_body_bytes r.body)) r.commit
    ++ reply_body_bytes r.body

-- the numbers of the results or records fit their fields
abbrev pub ReplyBodyFits : ReplyBody → Type 0
ReplyBodyFits Empty = Unit {0}
ReplyBodyFits (Results results) = All IsResult results
ReplyBodyFits (Accounts accounts) = All IsAccount accounts
ReplyBodyFits (Transfers transfers) = All IsTransfer transfers

-- a reply that has a frame: its numbers fit their fields and go together
pub record IsReply (r : Answer) : Type 0 where
  pub client : r.client < 2 ^ 128
  pub session : r.session < 2 ^ 64
  pub request : r.request < 2 ^ 32
  pub commit : r.commit < 2 ^ 64
  pub body : ReplyBodyFits r.body
  pub right : IsRight r

-- the numbers of a reply and the length of its body fit the fields of a frame
pub record FitsFrame (r : Answer) : Type 0 where
  pub client : r.client < 2 ^ 128
  pub session : r.session < 2 ^ 64
  pub request : r.request < 2 ^ 32
  pub operation : r.operation < 2 ^ 8
  pub commit : r.commit < 2 ^ 64
  pub body : length (reply_body_bytes r.body) < 2 ^ 32

-- the body is of the kind that the operation and the status require
abbrev pub HasKind : Answer → Type 0
HasKind r = kind_of r.body ≡ (if status_code r.status == 0 then kind_for r.operation else 0)

-- the bytes are the frame of the reply
pub record SpellsReply (bytes : List ℕ) (r : Answer) : Type 0 where
  pub bytes_are : bytes ≡ reply_bytes r
  pub is : IsReply r

abbrev pub status_at : List ℕ → ℕ
status_at b = le_at 1 29 b

abbrev pub commit_at : List ℕ → ℕ
commit_at b = le_at 8 36 b

-- the size of one item in the reply to an operation: a record, or a result
abbrev pub reply_item_size : ℕ → ℕ
reply_item_size operation = if operation == operation_code op.LookupAccounts || operation == operation_code op.LookupTransfers then 128 else 8

-- a length that the body of a reply may have: a refusal and the reply to a register have no body, any other reply has whole items
abbrev pub has_reply_length : ℕ → ℕ → ℕ → Bool
has_reply_length operation status len =
    if status == 0 && not (operation == operation_code op.Register) then len % reply_item_size operation == 0 else len == 0

-- what may be wrong with the header of a reply, in the order of the tests
abbrev pub reply_header_tests : List ℕ → List (Bool × FrameFault)
reply_header_tests b =
    (client_at b == 0, ClientZero)
    ∷ (not (is_operation (operation_at b)), UnknownOperation)
    ∷ (not (nat_lt (status_at b) 8 && le_at 2 30 b == 0 && le_at 4 44 b == 0), Reserved)
    ∷ (operation_at b == operation_code op.Register && not (has_register_numbers (status_at b) (session_at b) (request_at b)), RegisterNumbers)
    ∷ (not (operation_at b == operation_code op.Register) && request_at b == 0, RequestZero)
    ∷ (not (has_reply_numbers (operation_at b) (status_at b) (session_at b) (commit_at b)), ReplyNumbers)
    ∷ (not (has_reply_length (operation_at b) (status_at b) (length_at b)), BadLength)
    ∷ (nat_lt ITEMS_MAX (length_at b / reply_item_size (operation_at b)), TooMany)
    ∷ []

unfoldable pub reply_header_fault : List ℕ → Option FrameFault
reply_header_fault b = first_fault (reply_header_tests b)

-- what is wrong with the bytes if they do not begin with the frame of a reply
unfoldable pub reply_fault : List ℕ → Option FrameFault
reply_fault b = first_fault (
    (nat_lt (length b) 48, Short)
    ∷ reply_header_tests b
    ++ (nat_lt (length b) (48 + length_at b), Short) ∷ [])

-- the result of reading one reply at the beginning of the bytes: a reply and the length of its frame, or the fault
abbrev pub FoundReply : Result (Answer × ℕ) FrameFault → List ℕ → Type 0
FoundReply (Ok (r, n)) bytes = (n ≤ length bytes) × SpellsReply (take n bytes) r
FoundReply (Err NoMemory) bytes = reply_fault bytes ≡ None
FoundReply (Err fault) bytes = reply_fault bytes ≡ Some fault

-- a reader returns this reply of this length, or it had no memory
abbrev pub OnlyThisReply : Result (Answer × ℕ) FrameFault → Answer → ℕ → Type 0
OnlyThisReply (Ok (found, n)) r len = (found ≡ r) × (n ≡ len)
OnlyThisReply (Err NoMemory) r len = Unit {0}
OnlyThisReply (Err fault) r len = ⊥

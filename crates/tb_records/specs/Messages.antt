-- Requests and replies as contracts see them, and the rules that their numbers keep.
use Rattle.std.specs.Prelude.{ℕ, Bool, not, ◌&&◌, ◌||◌, ◌==◌, ◌≡◌, nat_lt, List, [], ◌∷◌, length, Option, Some, None, if◌then◌else◌}
use Rattle.tb_records.specs.declared.bodies.Body.{Body}
use Rattle.tb_records.specs.declared.bodies.Body.TheVariants.{Register, CreateAccounts, CreateTransfers, LookupAccounts, LookupTransfers}
use Rattle.tb_records.specs.declared.bodies.ReplyBody.{ReplyBody}
use Rattle.tb_records.specs.declared.bodies.ReplyBody.TheVariants.{Empty, Results, Accounts, Transfers}
use Rattle.tb_records.specs.declared.limits.TheConstants.{ITEMS_MAX}
use Rattle.tb_records.specs.declared.operations.Operation.TheVariants as op
use Rattle.tb_records.specs.declared.replies.Status.{Status}
use Rattle.tb_records.specs.declared.replies.Status.TheVariants.{Reply, NoSession, SessionTooLow, NewerSession, Older, Collision, NewerRequest, NotYet}
use Rattle.tb_records.specs.declared.faults.FrameFault.{FrameFault}
use Rattle.tb_records.specs.declared.faults.FrameFault.TheVariants.{ClientZero, UnknownOperation, BadLength, TooMany, RegisterNumbers, RequestZero, ReplyNumbers}
use Rattle.tb_records.specs.Operations.{operation_code}

-- a request
pub record Message : Type 0 where
  pub client : ℕ
  pub session : ℕ
  pub request : ℕ  -- its number in the session
  pub body : Body

-- a reply
pub record Answer : Type 0 where
  pub client : ℕ
  pub session : ℕ
  pub request : ℕ
  pub operation : ℕ
  pub status : Status
  pub commit : ℕ
  pub body : ReplyBody

-- the number of an operation
abbrev pub operation : Body → ℕ
operation Register = operation_code op.Register
operation (CreateAccounts events) = operation_code op.CreateAccounts
operation (CreateTransfers events) = operation_code op.CreateTransfers
operation (LookupAccounts ids) = operation_code op.LookupAccounts
operation (LookupTransfers ids) = operation_code op.LookupTransfers

-- the number of items in a body
abbrev pub item_count : Body → ℕ
item_count Register = 0
item_count (CreateAccounts events) = length events
item_count (CreateTransfers events) = length events
item_count (LookupAccounts ids) = length ids
item_count (LookupTransfers ids) = length ids

-- the number of events
abbrev pub count : Body → ℕ
count (CreateAccounts events) = length events
count (CreateTransfers events) = length events
count _ = 0

abbrev pub is_register : Body → Bool
is_register body = operation body == operation_code op.Register

-- the first test that holds gives the fault
abbrev pub first_fault : List (Bool × FrameFault) → Option FrameFault
first_fault [] = None
first_fault (test ∷ tests) = if test.0 then Some test.1 else first_fault tests

-- what may be wrong with a request's numbers
abbrev pub number_fault : Message → Option FrameFault
number_fault r = first_fault (
    (r.client == 0, ClientZero)
    ∷ (is_register r.body && not (r.session == 0 && r.request == 0), RegisterNumbers)
    ∷ (not (is_register r.body) && r.request == 0, RequestZero)
    ∷ (nat_lt ITEMS_MAX (item_count r.body), TooMany)
    ∷ [])

-- a request whose numbers keep the rules
abbrev pub IsLawful : Message → Type 0
IsLawful r = number_fault r ≡ None

abbrev pub asked : ℕ → ℕ → ℕ → Body → Message
asked client session request body = record { client = client; session = session; request = request; body = body }

-- the number of a status
abbrev pub status_code : Status → ℕ
status_code Reply = 0
status_code NoSession = 1
status_code SessionTooLow = 2
status_code NewerSession = 3
status_code Older = 4
status_code Collision = 5
status_code NewerRequest = 6
status_code NotYet = 7

-- the number of items in a reply's body
abbrev pub answer_count : ReplyBody → ℕ
answer_count Empty = 0
answer_count (Results results) = length results
answer_count (Accounts accounts) = length accounts
answer_count (Transfers transfers) = length transfers

-- the kind of body in the reply to an operation: 0 no body, 1 results, 2 accounts, 3 transfers
abbrev pub kind_of : ReplyBody → ℕ
kind_of Empty = 0
kind_of (Results results) = 1
kind_of (Accounts accounts) = 2
kind_of (Transfers transfers) = 3

-- the kind that the reply to an operation has
abbrev pub kind_for : ℕ → ℕ
kind_for operation =
    if operation == operation_code op.Register then 0
    else if operation == operation_code op.LookupAccounts then 2
    else if operation == operation_code op.LookupTransfers then 3
    else 1

abbrev pub is_operation : ℕ → Bool
is_operation n =
    n == operation_code op.Register
    || n == operation_code op.CreateAccounts
    || n == operation_code op.CreateTransfers
    || n == operation_code op.LookupAccounts
    || n == operation_code op.LookupTransfers

-- the session and the commit number of a reply that go together: a refusal has commit 0; a reply has a session, which is equal to the commit for a
-- register and below it for any other operation
abbrev pub has_reply_numbers : ℕ → ℕ → ℕ → ℕ → Bool
has_reply_numbers operation status session commit =
    if status == 0
    then not (session == 0) && (if operation == operation_code op.Register then session == commit else nat_lt session commit)
    else commit == 0

-- the numbers of a register's reply: request 0, and session 0 if it is a refusal
abbrev pub has_register_numbers : ℕ → ℕ → ℕ → Bool
has_register_numbers status session request = request == 0 && (status == 0 || session == 0)

-- what is wrong with a reply, in the order of the tests
abbrev pub answer_fault : Answer → Option FrameFault
answer_fault r = first_fault (
    (r.client == 0, ClientZero)
    ∷ (not (is_operation r.operation), UnknownOperation)
    ∷ (r.operation == operation_code op.Register && not (has_register_numbers (status_code r.status) r.session r.request), RegisterNumbers)
    ∷ (not (r.operation == operation_code op.Register) && r.request == 0, RequestZero)
    ∷ (not (has_reply_numbers r.operation (status_code r.status) r.session r.commit), ReplyNumbers)
    ∷ (not (kind_of r.body == (if status_code r.status == 0 then kind_for r.operation else 0)), BadLength)
    ∷ (nat_lt ITEMS_MAX (answer_count r.body), TooMany)
    ∷ [])

-- a reply that a frame can carry
abbrev pub IsRight : Answer → Type 0
IsRight r = answer_fault r ≡ None

abbrev pub answered : ℕ → ℕ → ℕ → ℕ → Status → ℕ → ReplyBody → Answer
answered client session request operation status commit body = record {
  client = client;
  session = session;
  request = request;
  operation = operation;
  status = status;
  commit = commit;
  body = body;
}

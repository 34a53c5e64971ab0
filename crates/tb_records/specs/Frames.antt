-- The frame of a request: a header of 48 bytes, and the items of the body after it.
use Rattle.std.specs.Prelude.{ℕ, Bool, not, ◌&&◌, ◌||◌, ◌==◌, ◌≡◌, ◌+◌, ◌/◌, ◌%◌, ◌^◌, ◌<◌, nat_lt, List, [], ◌∷◌, ◌++◌, length, replicate, flat_map, All, Option, if◌then◌else◌}
use Rattle.tb_records.specs.declared.bodies.Body.{Body}
use Rattle.tb_records.specs.declared.bodies.Body.TheVariants.{Register, CreateAccounts, CreateTransfers, LookupAccounts, LookupTransfers}
use Rattle.tb_records.specs.declared.faults.FrameFault.{FrameFault}
use Rattle.tb_records.specs.declared.faults.FrameFault.TheVariants.{Short, ClientZero, UnknownOperation, Reserved, BadLength, TooMany, RegisterNumbers, RequestZero}
use Rattle.tb_records.specs.declared.operations.Operation.TheVariants as op
use Rattle.tb_records.specs.Messages.{Message, operation, is_operation, first_fault, IsLawful}
use Rattle.tb_records.specs.Numbers.{le_bytes, le_at}
use Rattle.tb_records.specs.Operations.{operation_code}
use Rattle.tb_records.specs.RecordBytes.{account_bytes, transfer_bytes, IsAccount, IsTransfer}
use Rattle.tb_records.specs.declared.limits.TheConstants.{ITEMS_MAX}

-- the 48 bytes of a header
unfoldable pub header_bytes : ℕ → ℕ → ℕ → ℕ → ℕ → List ℕ
header_bytes client session request operation len =
    le_bytes 16 client
    ++ le_bytes 8 session
    ++ le_bytes 4 request
    ++ le_bytes 1 operation
    ++ replicate 3 0
    ++ le_bytes 4 len
    ++ replicate 12 0

-- one item after another
unfoldable pub body_bytes : Body → List ℕ
body_bytes Register = []
body_bytes (CreateAccounts events) = flat_map account_bytes events
body_bytes (CreateTransfers events) = flat_map transfer_bytes events
body_bytes (LookupAccounts ids) = flat_map (le_bytes 16) ids
body_bytes (LookupTransfers ids) = flat_map (le_bytes 16) ids

-- the bytes of a request
abbrev pub request_bytes : Message → List ℕ
request_bytes r = header_bytes r.client r.session r.request (operation r.body) (length (body_bytes r.body)) ++ body_bytes r.body

-- an id fits its 16 bytes
abbrev pub IsId : ℕ → Type 0
IsId id = id < 2 ^ 128

-- the numbers of each item fit their fields
abbrev pub BodyFits : Body → Type 0
BodyFits Register = Unit {0}
BodyFits (CreateAccounts events) = All IsAccount events
BodyFits (CreateTransfers events) = All IsTransfer events
BodyFits (LookupAccounts ids) = All IsId ids
BodyFits (LookupTransfers ids) = All IsId ids

-- a request whose numbers fit their fields and keep the rules
pub record IsRequest (r : Message) : Type 0 where
  pub client : r.client < 2 ^ 128
  pub session : r.session < 2 ^ 64
  pub request : r.request < 2 ^ 32
  pub items : BodyFits r.body
  pub lawful : IsLawful r

-- the numbers of a request and the length of its body fit the fields of a frame
pub record FitsFrame (r : Message) : Type 0 where
  pub client : r.client < 2 ^ 128
  pub session : r.session < 2 ^ 64
  pub request : r.request < 2 ^ 32
  pub body : length (body_bytes r.body) < 2 ^ 32

-- the bytes are the frame of the request
pub record Spells (bytes : List ℕ) (r : Message) : Type 0 where
  pub bytes_are : bytes ≡ request_bytes r
  pub is : IsRequest r

-- the fields of a header
abbrev pub client_at : List ℕ → ℕ
client_at b = le_at 16 0 b

abbrev pub session_at : List ℕ → ℕ
session_at b = le_at 8 16 b

abbrev pub request_at : List ℕ → ℕ
request_at b = le_at 4 24 b

abbrev pub operation_at : List ℕ → ℕ
operation_at b = le_at 1 28 b

abbrev pub length_at : List ℕ → ℕ
length_at b = le_at 4 32 b

-- the size of an item in the body of a request
abbrev pub item_size : ℕ → ℕ
item_size operation = if operation == operation_code op.CreateAccounts || operation == operation_code op.CreateTransfers then 128 else 16

-- what may be wrong with the length of a body
abbrev pub length_tests : ℕ → ℕ → List (Bool × FrameFault)
length_tests operation len =
    (not ((if operation == operation_code op.Register then len else len % item_size operation) == 0), BadLength)
    ∷ (nat_lt ITEMS_MAX (len / item_size operation), TooMany)
    ∷ []

-- what may be wrong with a header, in the order of the tests
abbrev pub header_tests : List ℕ → List (Bool × FrameFault)
header_tests b =
    (client_at b == 0, ClientZero)
    ∷ (not (is_operation (operation_at b)), UnknownOperation)
    ∷ (not (le_at 3 29 b == 0 && le_at 12 36 b == 0), Reserved)
    ∷ (operation_at b == operation_code op.Register && not (session_at b == 0 && request_at b == 0), RegisterNumbers)
    ∷ (not (operation_at b == operation_code op.Register) && request_at b == 0, RequestZero)
    ∷ length_tests (operation_at b) (length_at b)

-- the first fault of a header
unfoldable pub header_fault : List ℕ → Option FrameFault
header_fault b = first_fault (header_tests b)

-- the first fault of a frame: a cut header, a fault of the header, a cut body
unfoldable pub request_fault : List ℕ → Option FrameFault
request_fault b = first_fault (
    (nat_lt (length b) 48, Short)
    ∷ header_tests b
    ++ (nat_lt (length b) (48 + length_at b), Short) ∷ [])

-- The fields of a header without a fault.
use Rattle.std.specs.Prelude.{ℕ, length, Result, Ok, Err, MatchResult, Bool, ◌&&◌, ◌==◌, ◌*◌, not, nat_lt, [], ◌∷◌, take, ◌≡◌, ◌/◌, ◌^◌, ◌<◌, List, Option, Some, None}
use Rattle.tb_records.specs.declared.headers.Header.{Header}
use Rattle.std.specs.Io.KnownBytes.{Consumes}
use Rattle.tb_records.specs.declared.bodies.Body.{Body}
use Rattle.tb_records.specs.declared.faults.FrameFault.{FrameFault}
use Rattle.tb_records.specs.declared.faults.FrameFault.TheVariants.{ClientZero, TooMany, RegisterNumbers, RequestZero}
use Rattle.tb_records.specs.declared.operations.Operation.{Operation}
use Rattle.tb_records.specs.declared.operations.Operation.TheVariants as op
use Rattle.tb_records.specs.Inputs.{Answers}
use Rattle.tb_records.specs.Messages.{Message, operation, item_count, first_fault}
use Rattle.tb_records.specs.Operations.{operation_code}
use Rattle.tb_records.specs.private.Reading.{ReadsOr}
use Rattle.tb_records.specs.Transport.{Input}
use Rattle.tb_records.specs.Frames.{body_bytes, BodyFits, IsRequest, header_bytes, header_fault, length_tests, client_at, session_at, request_at, operation_at, length_at, item_size}
use Rattle.tb_records.specs.declared.limits.TheConstants.{ITEMS_MAX}

-- a right result, or the fault
abbrev pub RightOr : {X : Type 0} → Result X FrameFault → (X → Type 0) → Option FrameFault → Type 0
RightOr result Right fault = MatchResult result Right (λ f. fault ≡ Some f)

-- none of the tests holds, or the fault of the first that does
abbrev pub PassesOr : {X : Type 0} → Result X FrameFault → List (Bool × FrameFault) → Type 0
PassesOr result tests = RightOr result (λ _. first_fault tests ≡ None) (first_fault tests)

-- the fields of a header without a fault, and the number of items that its length makes
pub record HeaderOf (b : List ℕ) (h : Header) : Type 0 where
  pub sound : header_fault b ≡ None
  pub client : h.client ≡ client_at b
  pub session : h.session ≡ session_at b
  pub request : h.request ≡ request_at b
  pub operation : operation_code h.operation ≡ operation_at b
  pub length : h.length ≡ length_at b
  pub count : h.count ≡ length_at b / item_size (operation_at b)

-- the bytes of a header are the encoding of its fields, which fit
pub record HeaderSpelled (b : List ℕ) : Type 0 where
  pub bytes : take 48 b ≡ header_bytes (client_at b) (session_at b) (request_at b) (operation_at b) (length_at b)
  pub client : client_at b < 2 ^ 128
  pub session : session_at b < 2 ^ 64
  pub request : request_at b < 2 ^ 32
  pub body : length_at b < 2 ^ 32

-- what may be wrong with the session and the number of a request: those of a register are 0, and another operation has a number
abbrev pub number_tests : Bool → ℕ → ℕ → List (Bool × FrameFault)
number_tests register session request =
    (register && not (session == 0 && request == 0), RegisterNumbers)
    ∷ (not register && request == 0, RequestZero)
    ∷ []

-- what may be wrong with the numbers of a header, as those of the request that it begins
abbrev pub numbers_tests : ℕ → ℕ → ℕ → ℕ → ℕ → List (Bool × FrameFault)
numbers_tests client session request code count =
    (client == 0, ClientZero)
    ∷ (code == operation_code op.Register && not (session == 0 && request == 0), RegisterNumbers)
    ∷ (not (code == operation_code op.Register) && request == 0, RequestZero)
    ∷ (nat_lt ITEMS_MAX count, TooMany)
    ∷ []

abbrev pub numbers_fault : ℕ → ℕ → ℕ → ℕ → ℕ → Option FrameFault
numbers_fault client session request code count = first_fault (numbers_tests client session request code count)

-- the result for a length: the number of items of the operation that it makes, or its first fault
abbrev pub CountAnswers : Result ℕ FrameFault → ℕ → ℕ → Type 0
CountAnswers result code len = RightOr result (λ n. (n ≡ len / item_size code) × (first_fault (length_tests code len) ≡ None)) (first_fault (length_tests code len))

-- the numbers of a header keep the rules and fit
pub record IsHeader (h : Header) : Type 0 where
  pub lawful : numbers_fault h.client h.session h.request (operation_code h.operation) h.count ≡ None
  pub client : h.client < 2 ^ 128
  pub session : h.session < 2 ^ 64
  pub request : h.request < 2 ^ 32
  pub empty : operation_code h.operation ≡ operation_code op.Register → h.count ≡ 0

-- the length of the body after a header
abbrev pub body_length : Header → ℕ
body_length h = h.count * item_size (operation_code h.operation)

-- a body was read: count items of the operation, whose numbers fit
pub record ReadsBody (code n : ℕ) (body : Body) (before after : Option (List ℕ)) : Type 0 where
  pub operation : operation body ≡ code
  pub count : item_count body ≡ n
  pub bytes : Consumes before after (body_bytes body)
  pub fit : BodyFits body

-- the result of reading the body of an operation, of count items
abbrev pub BodyAnswers : Result Body FrameFault → Operation → ℕ → Input → Input → Type 0
BodyAnswers result operation n before after = ReadsOr result (ReadsBody (operation_code operation) n) (n * item_size (operation_code operation)) before after

-- the request of a header was read: its body was left
pub record ReadsRequest (h : Header) (r : Message) (before after : Option (List ℕ)) : Type 0 where
  pub client : r.client ≡ h.client
  pub session : r.session ≡ h.session
  pub request : r.request ≡ h.request
  pub operation : operation r.body ≡ operation_code h.operation
  pub count : item_count r.body ≡ h.count
  pub bytes : Consumes before after (body_bytes r.body)
  pub is : IsRequest r

-- the result of reading the body after a header
abbrev pub RequestAnswers : Result Message FrameFault → Header → Input → Input → Type 0
RequestAnswers result h before after = ReadsOr result (ReadsRequest h) (body_length h) before after

-- 48 bytes were read, the encoding of a header without a fault
pub record ReadsHeader (h : Header) (before after : Option (List ℕ)) : Type 0 where
  pub header : List ℕ
  pub long : length header ≡ 48
  pub fields : HeaderOf header h
  pub spelled : HeaderSpelled header
  pub bytes : Consumes before after header

-- the result of a stream up to the header
abbrev pub HeaderAnswers : Result (Option Header) FrameFault → Option (List ℕ) → Option (List ℕ) → Type 0
HeaderAnswers (Ok None) before after = Answers (Ok None) before after
HeaderAnswers (Ok (Some h)) before after = ReadsHeader h before after
HeaderAnswers (Err fault) before after = Answers (Err fault) before after

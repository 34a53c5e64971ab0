-- An encoding is decoded: the fields of an encoding, and that an encoding has no fault and is not a prefix of another one.
use Rattle.std.proofs.Common.{◌≡◌, ℕ, ◌+◌, ◌/◌, ◌%◌, ◌^◌, ◌<◌, ◌≤◌, true, List, [], ◌∷◌, ◌++◌, length, take, drop, None, Result, Ok, Err, refl, sym, ap, ◌∙◌, arith, length-append, length-take, append_assoc, take-append-drop}
use Rattle.std.proofs.Math.Nat.{mul-mod_left, mul-div_left}
use Rattle.std.proofs.lemmas.Bool.{ltb-false}
use Rattle.tb_records.specs.declared.bodies.Body.{Body}
use Rattle.tb_records.specs.declared.bodies.Body.TheVariants.{Register, CreateAccounts, CreateTransfers, LookupAccounts, LookupTransfers}
use Rattle.tb_records.specs.declared.faults.FrameFault.{FrameFault}
use Rattle.tb_records.specs.declared.faults.FrameFault.TheVariants.{NoMemory}
use Rattle.tb_records.specs.Messages.{Message, operation, item_count, is_operation, number_fault, IsLawful}
use Rattle.tb_records.specs.Numbers.{le_bytes}
use Rattle.tb_records.specs.RecordBytes.{account_bytes, transfer_bytes, IsAccount, IsTransfer}
use Rattle.tb_records.proofs.Sizes.{length-le_bytes, length-account, length-transfer, length-id}
use Rattle.tb_records.specs.Frames.{header_bytes, body_bytes, request_bytes, request_fault, header_fault, item_size, FitsFrame, IsRequest, Spells, BodyFits, IsId}
use Rattle.tb_records.specs.private.HeaderFields.{numbers_tests}
use Rattle.tb_records.specs.Inputs.{Found, OnlyThis}
use Rattle.tb_records.proofs.NumberBytes.{le_bytes-one, split_at}
use Rattle.tb_records.proofs.OneSpelling.{one_account, one_transfer, items_one}
use Rattle.tb_records.proofs.StreamAnswers.{length-body}
use Rattle.tb_records.proofs.FrameFaults.{whole_frame}
use Rattle.tb_records.proofs.HeaderBytes.{header_widths}
use Rattle.tb_records.proofs.Rows.{Fit, Stand, row_stands, one_row}
use Rattle.std.proofs.lemmas.Bool.Decides.{nat_tests}
use Rattle.tb_records.proofs.FirstFaults.{none_each}

-- the number of an operation fits its byte
code_small : (body : Body) → operation body < 2 ^ 8
code_small body = grind arith

code_known : (body : Body) → is_operation (operation body) ≡ true
code_known body = grind arith

-- a lawful request has at most 8190 items
few : (r : Message) → IsLawful r → item_count r.body ≤ 8190
few r lawful = ltb-false 8190 (item_count r.body) (none_each (numbers_tests r.client r.session r.request (operation r.body) (item_count r.body)) lawful).1.1.1.0

-- a body of few items is short
short_body : (body : Body) → item_count body ≤ 8190 → length (body_bytes body) < 2 ^ 32
short_body body h = let len = length-body body in grind arith

-- the header of a request
abbrev header_of : Message → List ℕ
header_of r = header_bytes r.client r.session r.request (operation r.body) (length (body_bytes r.body))

-- what fits, of a request that has a frame
fits_frame : (r : Message) → IsRequest r → FitsFrame r
fits_frame r is = record { client = is.client; session = is.session; request = is.request; body = short_body r.body (few r is.lawful) }

-- the numbers of a request's header
abbrev header_numbers : Message → List ℕ
header_numbers r = r.client ∷ r.session ∷ r.request ∷ operation r.body ∷ 0 ∷ length (body_bytes r.body) ∷ 0 ∷ []

row_fits : (r : Message) → FitsFrame r → Fit header_widths (header_numbers r)
row_fits r fits = let code = code_small r.body in grind arith

-- they are in it
places : (r : Message) (more : List ℕ) → FitsFrame r → Stand header_widths (header_numbers r) 0 (header_of r ++ more)
unfolding header_bytes le_bytes
places r more fits = row_stands header_widths (header_numbers r) 0 [] more refl (row_fits r fits)

length-header : (r : Message) → length (header_of r) ≡ 48
unfolding header_bytes
length-header r = simp (length-append, length-le_bytes)

-- the length of a body, which gives the number of its items
length_passes : (body : Body) → let len = length (body_bytes body) in let size = item_size (operation body) in (len / size ≡ item_count body) × (len % size ≡ 0) × (operation body ≡ 2 → len ≡ 0)
length_passes body = let len = length-body body in grind (arith, mul-mod_left, mul-div_left)

-- the first fault of a header is that of the values
header_fault_is : (r : Message) (more : List ℕ) → FitsFrame r → header_fault (header_of r ++ more) ≡ number_fault r
unfolding header_fault
header_fault_is r more fits =
    let at = places r more fits in
    let passes = length_passes r.body in
    let known = code_known r.body in
    grind (arith, nat_tests)

-- a request's values have the first fault that their frame has, whatever follows it
pub one_fault : (r : Message) (more : List ℕ) → FitsFrame r → request_fault (request_bytes r ++ more) ≡ number_fault r
one_fault r more fits =
    let body = body_bytes r.body in
    let b = header_of r ++ (body ++ more) in
    let at = places r (body ++ more) fits in
    let long : length b ≡ 48 + (length body + length more) = omega (arith, length-append (header_of r) (body ++ more), length-append body more, length-header r) in
    ap request_fault (append_assoc (header_of r) body more)
    ∙ whole_frame b (omega arith) (omega (arith, at.1.1.1.1.1.0))
    ∙ header_fault_is r (body ++ more) fits

-- an encoding has no fault, whatever follows it
pub spelled_sound : (r : Message) (more : List ℕ) → IsRequest r → request_fault (request_bytes r ++ more) ≡ None
spelled_sound r more is = one_fault r more (fits_frame r is) ∙ is.lawful

-- an id has one encoding
one_id : (x y : ℕ) → IsId x → IsId y → le_bytes 16 x ≡ le_bytes 16 y → x ≡ y
one_id x y hx hy e = le_bytes-one 16 x y hx hy e

-- bodies of one operation with the same encoding
body_one : (a b : Body) → operation a ≡ operation b → BodyFits a → BodyFits b → body_bytes a ≡ body_bytes b → a ≡ b
unfolding body_bytes
body_one Register Register o fa fb e = refl
body_one (CreateAccounts xs) (CreateAccounts ys) o fa fb e = ap CreateAccounts (items_one account_bytes IsAccount 128 (omega arith) length-account one_account xs ys fa fb e)
body_one (CreateTransfers xs) (CreateTransfers ys) o fa fb e = ap CreateTransfers (items_one transfer_bytes IsTransfer 128 (omega arith) length-transfer one_transfer xs ys fa fb e)
body_one (LookupAccounts xs) (LookupAccounts ys) o fa fb e = ap LookupAccounts (items_one (le_bytes 16) IsId 16 (omega arith) length-id one_id xs ys fa fb e)
body_one (LookupTransfers xs) (LookupTransfers ys) o fa fb e = ap LookupTransfers (items_one (le_bytes 16) IsId 16 (omega arith) length-id one_id xs ys fa fb e)
body_one a b o fa fb e = absurd (omega (arith, o))

-- no encoding is a prefix of another, and each request has one
pub spelled_once : (r s : Message) (x y : List ℕ) → IsRequest r → IsRequest s → request_bytes r ++ x ≡ request_bytes s ++ y → (r ≡ s) × (x ≡ y)
unfolding header_bytes le_bytes
spelled_once r s x y ir is e =
    let br = body_bytes r.body in
    let bs = body_bytes s.body in
    let all = sym (append_assoc (header_of r) br x) ∙ e ∙ append_assoc (header_of s) bs y in
    let heads = one_row header_widths (header_numbers r) (header_numbers s) (br ++ x) (bs ++ y) refl refl (row_fits r (fits_frame r ir)) (row_fits s (fits_frame s is)) all in
    let bodies = split_at br bs x y (cc heads.0) heads.1 in
    let body : r.body ≡ s.body = body_one r.body s.body (cc heads.0) ir.items is.items bodies.0 in
    (grind arith, bodies.1)

-- the result for a slice is the only one
pub found_only : (answer : Result (Message × ℕ) FrameFault) (bytes front rest : List ℕ) (r : Message) → Found answer bytes → Spells front r → bytes ≡ front ++ rest → OnlyThis answer r (length front)
found_only (Ok (s, n)) bytes front rest r found spells e =
    let is : bytes ≡ take n bytes ++ drop n bytes = sym (take-append-drop n bytes) in
    let both : request_bytes s ++ drop n bytes ≡ request_bytes r ++ rest =
    ap (λ l. l ++ drop n bytes) (sym found.1.bytes_are) ∙ sym is ∙ e ∙ ap (λ l. l ++ rest) spells.bytes_are in
    let one = spelled_once s r (drop n bytes) rest found.1.is spells.is both in
    let same : take n bytes ≡ front = found.1.bytes_are ∙ ap request_bytes one.0 ∙ sym spells.bytes_are in
    (one.0, omega (arith, ap length same, length-take n bytes, found.0))
found_only (Err NoMemory) bytes front rest r found spells e = tt
found_only (Err fault) bytes front rest r found spells e =
    let sound : request_fault bytes ≡ None = ap request_fault (e ∙ ap (λ l. l ++ rest) spells.bytes_are) ∙ spelled_sound r rest spells.is in
    cc

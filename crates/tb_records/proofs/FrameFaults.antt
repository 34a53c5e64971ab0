-- The first fault of a frame, by the fault of its header and its length.
use Rattle.std.proofs.Common.{◌≡◌, ℕ, ◌+◌, ◌<◌, ◌≤◌, Bool, not, ◌&&◌, ◌==◌, List, ◌∷◌, ◌++◌, length, Some, None, arith}
use Rattle.std.proofs.lemmas.Bool.Decides.{nat_tests}
use Rattle.tb_records.specs.declared.faults.FrameFault.{FrameFault}
use Rattle.tb_records.specs.declared.faults.FrameFault.TheVariants.{Short, ClientZero, UnknownOperation, Reserved, RegisterNumbers, RequestZero, Device, NoMemory}
use Rattle.tb_records.specs.Frames.{request_fault, header_fault, length_tests, length_at}
use Rattle.tb_records.specs.Messages.{first_fault, is_operation}
use Rattle.tb_records.proofs.NumberBytes.{le_at-append}

-- the tests of a header, by its fields
abbrev pub tests_of : ℕ → ℕ → ℕ → ℕ → ℕ → ℕ → ℕ → List (Bool × FrameFault)
tests_of client session request operation low len high =
    (client == 0, ClientZero)
    ∷ (not (is_operation operation), UnknownOperation)
    ∷ (not (low == 0 && high == 0), Reserved)
    ∷ (operation == 2 && not (session == 0 && request == 0), RegisterNumbers)
    ∷ (not (operation == 2) && request == 0, RequestZero)
    ∷ length_tests operation len

-- bytes after a header do not change its length
pub length_at-append : (b rest : List ℕ) → 48 ≤ length b → length_at (b ++ rest) ≡ length_at b
length_at-append b rest h = le_at-append 4 32 b rest (omega arith)

-- bytes after a header do not change its fault
pub header_fault-append : (b rest : List ℕ) → 48 ≤ length b → header_fault (b ++ rest) ≡ header_fault b
unfolding header_fault
header_fault-append b rest h =
    let client = le_at-append 16 0 b rest (omega arith) in
    let session = le_at-append 8 16 b rest (omega arith) in
    let request = le_at-append 4 24 b rest (omega arith) in
    let operation = le_at-append 1 28 b rest (omega arith) in
    let low = le_at-append 3 29 b rest (omega arith) in
    let len = length_at-append b rest h in
    let high = le_at-append 12 36 b rest (omega arith) in
    λ i. first_fault (tests_of (client i) (session i) (request i) (operation i) (low i) (len i) (high i))

-- a header that is cut
pub cut_header : (b : List ℕ) → length b < 48 → request_fault b ≡ Some Short
unfolding request_fault
cut_header b h = grind (arith, nat_tests)

-- a fault of the header is that of the frame
pub header_first : (b : List ℕ) (f : FrameFault) → 48 ≤ length b → header_fault b ≡ Some f → request_fault b ≡ Some f
unfolding request_fault header_fault
header_first b f h e = grind (arith, nat_tests)

-- a body that is cut
pub cut_body : (b : List ℕ) → 48 ≤ length b → header_fault b ≡ None → length b < 48 + length_at b → request_fault b ≡ Some Short
unfolding request_fault header_fault
cut_body b h e short = grind (arith, nat_tests)

-- a whole frame has the fault of its header
pub whole_frame : (b : List ℕ) → 48 ≤ length b → 48 + length_at b ≤ length b → request_fault b ≡ header_fault b
unfolding request_fault header_fault
whole_frame b h long = grind (arith, nat_tests)

-- the faults that a header can have
abbrev pub IsOfHeader : FrameFault → Type 0
IsOfHeader Short = ⊥
IsOfHeader Device = ⊥
IsOfHeader NoMemory = ⊥
IsOfHeader fault = Unit {0}

-- a header is not short
pub is_of_header : (b : List ℕ) (f : FrameFault) → header_fault b ≡ Some f → IsOfHeader f
unfolding header_fault
is_of_header b f e = grind arith
